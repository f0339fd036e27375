-- What is kept of a replay between two windows, which are stretches of a record's events (this project's profile).
use Rattle.std.specs.Prelude.{[], ◌++◌}
use Rattle.replay_model.specs.Noted.{PageView}
use Rattle.replay_model.specs.Page.{ReplayStateView}

-- a page with its four lists emptied: its line, fault and tallies stay
abbrev pub emptied : PageView → PageView
emptied page = record page { left = []; came = []; births = []; deaths = [] }

-- what is kept of a replay's state: its part, since when it idles, and its page with the lists emptied
abbrev pub kept_of : ReplayStateView → ReplayStateView
kept_of last = record last { page = emptied last.page }

-- a page with the lists of an earlier one before its own
abbrev pub page_behind : PageView → PageView → PageView
page_behind earlier page = record page {
  left = earlier.left ++ page.left;
  came = earlier.came ++ page.came;
  births = earlier.births ++ page.births;
  deaths = earlier.deaths ++ page.deaths;
}

-- a replay's state with the lists of an earlier page before its page's own
abbrev pub state_behind : PageView → ReplayStateView → ReplayStateView
state_behind earlier state = record state { page = page_behind earlier state.page }

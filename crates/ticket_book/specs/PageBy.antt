-- The page of a processor by some settings: one at the greatest, which would be the same by these, or one made anew.
-- You needn't believe this.
use Rattle.std.specs.Prelude.{Option, Some, None}
use Rattle.cfs_model.specs.Knobs.{KnobsView}
use Rattle.queue_replay.specs.Replay.{ReplayView}
use Rattle.replay_model.specs.Noted.{PageView}
use Rattle.ticket_book.specs.declared.page_by.PageBy.{PageBy}

-- the replay by these settings of which it is the page
abbrev pub replay_by : KnobsView → ReplayView → Option ReplayView → ReplayView
replay_by knobs kept None = record kept { knobs = knobs }
replay_by knobs kept (Some remade) = remade

abbrev pub by_view : KnobsView → PageBy → ReplayView
by_view knobs by = replay_by knobs by.kept.now by.remade

-- its page
abbrev pub shown_by : ReplayView → Option ReplayView → PageView
shown_by kept None = kept.page
shown_by kept (Some remade) = remade.page

abbrev pub page_view : PageBy → PageView
page_view by = shown_by by.kept.now by.remade

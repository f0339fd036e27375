-- What the page of a replay under way shows, and what a step adds to it (this project's profile).
use Rattle.std.specs.Prelude.{◌<◌, ⊤, vec_len, vec_capacity, option_to_list, Option, None, [], List}
use Rattle.replay_model.specs.Deeds.{left_ticket, came_ticket}
use Rattle.replay_model.specs.Part.{Part}
use Rattle.replay_model.specs.declared.page.Ticket.{Ticket}
use Rattle.replay_model.specs.declared.step.Deed.{Deed}
use Rattle.replay_model.specs.declared.step.Deed.TheVariants.{Switch, Wake, Born, Leave, Arrive}
use Rattle.replay_model.specs.declared.step.Step.{Step}
use Rattle.replay_model.specs.Noted.{PageView}
use Rattle.queue_replay.specs.declared.page_draft.PageDraft.{PageDraft}

-- the draft as a page shows it
abbrev pub page_draft_view : PageDraft → PageView
page_draft_view draft = record {
  line = draft.line;
  fault = draft.fault;
  left = draft.left.items;
  came = draft.came.items;
  births = draft.births.items;
  deaths = draft.deaths.items;
  tallies = draft.tallies.list.items;
}

-- the ticket of a step, if it has one
abbrev pub ticket_by : Part → Step → Deed → Option Ticket
ticket_by found step (Leave pid nice dest) = left_ticket found step.line pid
ticket_by found step (Arrive pid nice orig policy) = came_ticket found step.line pid nice policy step.claim
ticket_by found step _ = None

-- a ticket, if the task leaves, and if it comes
abbrev pub if_left : Deed → Option Ticket → List Ticket
if_left (Leave pid nice dest) ticket = option_to_list ticket
if_left _ ticket = []

abbrev pub if_came : Deed → Option Ticket → List Ticket
if_came (Arrive pid nice orig policy) ticket = option_to_list ticket
if_came _ ticket = []

-- the lists of the draft have room for what a deed adds
abbrev pub HasDraftRoom : Deed → PageDraft → Type 0
HasDraftRoom (Switch prev prev_nice way next next_nice) draft = vec_len draft.deaths < vec_capacity draft.deaths
HasDraftRoom (Wake pid nice) draft = ⊤
HasDraftRoom (Born pid nice policy) draft = (vec_len draft.births < vec_capacity draft.births)
    × (vec_len draft.tallies.list < vec_capacity draft.tallies.list)
HasDraftRoom (Leave pid nice dest) draft = vec_len draft.left < vec_capacity draft.left
HasDraftRoom (Arrive pid nice orig policy) draft = (vec_len draft.came < vec_capacity draft.came)
    × (vec_len draft.tallies.list < vec_capacity draft.tallies.list)

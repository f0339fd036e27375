-- Replays of all processors that pass, event by event, are steps of a machine: the law `composition`. From the bottom
-- up.
pub mod CutReplays
pub mod Bounded
pub mod StepLines
pub mod ShiftTickets
pub mod StepExists
pub mod ComposeAll
pub mod PagesCompose

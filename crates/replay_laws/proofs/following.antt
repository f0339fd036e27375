-- Along a run each replay keeps up with its part, and the roll with who stands somewhere: the law `replays`.
-- From the bottom up.
pub mod PartIdling
pub mod StartPart
pub mod Roll
pub mod Follow
pub mod Followed
pub mod FollowLaws

-- What a replay shows against an event ends the run: the laws `faults_end_runs` and `endings`. From the bottom up.
pub mod RunEnds
pub mod RunEndings

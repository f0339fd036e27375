use Rattle.stream_audit.proofs.course.Course.judge.Goals as goal

pub judge_waiting-requires-after_bounds : goal.judge_waiting-requires-after_bounds
judge_waiting-requires-after_bounds g c κs within = λ told.
    (c.args.self.now, c.requires.0, c.is_calm-calm.ensures.calm told, c.requires.1)

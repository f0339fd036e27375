-- What a replay found, as its page shows it (this project's profile).
use Rattle.replay_model.specs.Noted.{PageView}
use Rattle.queue_replay.specs.declared.found.Found.{Found}

abbrev pub found_view : Found → PageView
found_view found = record {
  line = found.line;
  fault = found.fault;
  left = found.left;
  came = found.came;
  births = found.births;
  deaths = found.deaths;
  tallies = found.tallies;
}

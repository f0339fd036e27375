use Rattle.companion_file.proofs.Reader.{tells_version}
use Rattle.companion_file.proofs.companion_reader.CompanionReader.version.Goals as goal

pub returns : goal.returns
returns c lines said edge read version =
    let reader = c.args.self.now in
    rw c.version.ensures (tells_version reader.bad lines reader.count reader.draft said edge version read)

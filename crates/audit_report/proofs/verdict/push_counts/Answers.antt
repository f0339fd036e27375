-- Each line stands behind those that were written before it.
use Rattle.std.proofs.Common.{◌++◌, codes, string_bytes}
use Rattle.audit_report.proofs.Written.{behind}
use Rattle.audit_report.specs.Report.{count_line, line_of}
use Rattle.audit_report.proofs.verdict.push_counts.Goals as goal

pub returns : goal.returns
returns c =
    let end = string_bytes c.writeln-6.new.self in
    let events = count_line (codes "events") c.args.summary.now.events in
    let switches = count_line (codes "switches") c.args.summary.now.switches in
    let migrations = count_line (codes "migrations") c.args.summary.now.migrations in
    let births = count_line (codes "births") c.args.summary.now.births in
    let deaths = count_line (codes "deaths") c.args.summary.now.deaths in
    let from_births = behind (string_bytes c.writeln-4.new.self) (string_bytes c.writeln-5.new.self) end births deaths
    c.in_ok-writeln-5.ensures.bytes c.in_ok-writeln-6.ensures.bytes in
    let from_migrations = behind (string_bytes c.writeln-3.new.self) (string_bytes c.writeln-4.new.self) end
    migrations (births ++ deaths) c.in_ok-writeln-4.ensures.bytes from_births in
    let from_switches = behind (string_bytes c.writeln-2.new.self) (string_bytes c.writeln-3.new.self) end
    switches (migrations ++ (births ++ deaths)) c.in_ok-writeln-3.ensures.bytes from_migrations in
    let from_events = behind (string_bytes c.writeln.new.self) (string_bytes c.writeln-2.new.self) end
    events (switches ++ (migrations ++ (births ++ deaths))) c.in_ok-writeln-2.ensures.bytes from_switches in
    behind (string_bytes c.args.text.now) (string_bytes c.writeln.new.self) end
    (line_of (codes "run")) (events ++ (switches ++ (migrations ++ (births ++ deaths)))) c.in_ok-writeln.ensures.bytes
    from_events

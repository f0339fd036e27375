use Rattle.std.proofs.Common.{◌≡◌, ◌<◌, [], ◌∷◌, ◌++◌, false, get_or, length, refl, sym, ap, ◌∙◌, subst, arith}
use Rattle.queue_replay.specs.Replay.{ReplayView}
use Rattle.sched_record.specs.Record.{record_view}
use Rattle.ticket_book.specs.Own.{AreToldOwn, IsToldOwn}
use Rattle.ticket_book.specs.Relying.{IsLeastFaultLine}
use Rattle.ticket_book.specs.Remade.{AreRemadeBelow, Suffices}
use Rattle.ticket_book.proofs.CoreKept.{nothing_remade}
use Rattle.ticket_book.proofs.CoreKept.{nothing_remade}
use Rattle.ticket_book.proofs.Gathering.{AreGathered, IsGathered, all_gathered, gathered_one, made_one}
use Rattle.ticket_book.proofs.Gathering.{reliable_suffices, suffices_reliable, whole_suffices}
use Rattle.ticket_book.proofs.Owned.{told_at}
use Rattle.ticket_book.proofs.remaking.gathered_pages.Goals as goal
use Rattle.ticket_book.proofs.remaking.gathered_pages.Goals.{in-Some, in-None+in_ok-page-in-None}

pub loop-cpu-preserved : goal.loop-cpu-preserved
loop-cpu-preserved c =
    let knobs = c.args.knobs in
    let r = record_view c.args.joined.now in
    let slots = c.args.slots.items in
    let left = c.loop-cpu.left in
    let cpu = c.loop-cpu.cpu in
    let taken = c.take_page-slot.ensures in
    let least = c.least_fault-least.result in
    let count = c.requires.count in
    let cpus = c.cpus-cpu-end.ensures in
    let below = c.loop-cpu-test.true in
    let within : cpu < length c.args.own.now = omega (arith, count, cpus, below) in
    let own = get_or c.args.own.now cpu false in
    let told : IsToldOwn knobs r cpu c.take_page-slot.result own =
    told_at knobs r slots c.args.own.now cpu c.take_page-slot.result c.requires.told within
    (taken.page ∙ c.loop-cpu.invariant.left_are cpu (omega arith)) in
    let least_is : IsLeastFaultLine knobs r slots r.cpus least =
    subst (λ n. IsLeastFaultLine knobs r slots n least) count
    (subst (λ ps. IsLeastFaultLine knobs r ps (length c.args.own.now) least) c.deref.ensures.value
    (c.least_fault-least.ensures knobs r
    (subst (λ ps. AreToldOwn knobs r ps c.args.own.now) (sym c.deref.ensures.value) c.requires.told))) in
    let pushed = λ (p : ReplayView). c.loop-cpu.pages.items ++ p ∷ [] in
    elim c.match-relied_on.branch [
      | in-Some w ↦
          (let page = w.in-Some.page in
          let relied = w.in-Some.ensures in
          let pages : c.push.new.self.items ≡ pushed page = c.in_ok-push.ensures.items ∙ ap pushed w.page-is in
          let is : IsGathered knobs r slots cpu page =
          record {
            suffices = reliable_suffices knobs r slots own least cpu page least_is
                (subst (λ slot. IsToldOwn knobs r cpu slot own) relied.same told) relied.reliable;
            is_page = relied.is_page;
          } in
          rw (pages, w.remade-is)
          (gathered_one knobs r slots left c.take_page-slot.new.slots c.loop-cpu.pages.items cpu c.loop-cpu.remade
          page c.loop-cpu.invariant
          is taken.others (sym taken.page ∙ relied.same)))
      | in-None+in_ok-page-in-None w ↦
          (let page = w.in_ok-page-in-None.page in
          let whole = w.in_ok-page-in-None.ensures in
          let lacks = λ (s : Suffices knobs r slots cpu _). w.in-None.ensures.none refl
          (suffices_reliable knobs r slots own least cpu c.take_page-slot.result least_is told
          (subst (Suffices knobs r slots cpu) (sym taken.page) s)) in
          let pages : c.push.new.self.items ≡ pushed page = c.in_ok-push.ensures.items ∙ ap pushed w.page-is in
          let is : IsGathered knobs r slots cpu page =
          record { suffices = whole_suffices knobs r slots cpu page whole; is_page = whole.is_page } in
          rw (pages, w.remade-is)
          (made_one knobs r slots left c.take_page-slot.new.slots c.loop-cpu.pages.items cpu c.loop-cpu.remade page
          c.loop-cpu.invariant
          is taken.others lacks))
    ]

pub returns-clause-suffice : goal.returns-clause-suffice
returns-clause-suffice c =
    let knobs = c.args.knobs in
    let r = record_view c.args.joined.now in
    let slots = c.args.slots.items in
    let count = c.cpus-cpu-end.ensures in
    let most = c.loop-cpu.auto.cpu-end in
    let all = c.loop-cpu-test.false in
    let same : c.loop-cpu.cpu ≡ r.cpus = omega (arith, count, most, all) in
    all_gathered knobs r slots c.loop-cpu.left c.loop-cpu.pages.items c.loop-cpu.remade
    (subst (λ n. AreGathered knobs r slots c.loop-cpu.left c.loop-cpu.pages.items n c.loop-cpu.remade) same
    c.loop-cpu.invariant)

pub returns-clause-nothing_remade : goal.returns-clause-nothing_remade
returns-clause-nothing_remade c =
    let knobs = c.args.knobs in
    let r = record_view c.args.joined.now in
    let slots = c.args.slots.items in
    let count = c.cpus-cpu-end.ensures in
    let most = c.loop-cpu.auto.cpu-end in
    let all = c.loop-cpu-test.false in
    let same : c.loop-cpu.cpu ≡ r.cpus = omega (arith, count, most, all) in
    nothing_remade knobs r slots c.loop-cpu.remade
    (subst (λ n. AreRemadeBelow knobs r slots n c.loop-cpu.remade) same c.loop-cpu.invariant.remade_are)

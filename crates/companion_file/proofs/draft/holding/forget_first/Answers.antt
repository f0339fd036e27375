use Rattle.std.proofs.Common.{◌+◌, ◌<◌, ap, ◌∙◌, get_or, length, set, arith}
use Rattle.companion_file.proofs.Moved.{moved_on, still_there}
use Rattle.companion_file.proofs.draft.holding.forget_first.Goals as goal

pub loop-index-preserved : goal.loop-index-preserved
loop-index-preserved g c =
    let items = c.args.list.now.items in
    let gone = c.min-gone.result in
    let i = c.loop-index.index in
    let x = c.index.result.now in
    let so_far = c.loop-index.invariant in
    let test = c.loop-index-test.true in
    let left = so_far.left in
    let within : gone + i < length items = omega (arith, test, left) in
    record {
      gone = so_far.gone;
      left = left;
      within = omega (arith, test);
      items = ap (λ list. set list i x) so_far.items
          ∙ moved_on items gone i x within (c.index.ensures ∙ ap (λ list. get_or list (gone + i) x) so_far.items
          ∙ still_there items gone i x within);
    }

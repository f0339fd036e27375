-- The key stands only where its first byte does, so the indices between are passed over.
use Rattle.std.proofs.Common.{◌≡◌, ◌-◌, ◌<◌, eqb, true, false, [], min, length, drop, refl, sym, ap, ◌∙◌, arith, rules}
use Rattle.std.proofs.lemmas.Bool.{eqb-true}
use Rattle.std.proofs.lemmas.List.{take_rest, nil_from_length}
use Rattle.text_parts.specs.Pieces.{begins_with}
use Rattle.sched_event.proofs.KeyIndices.{index_found, index_below, index_none, none_in_empty, passed_over, from_last}
use Rattle.sched_event.proofs.fields.last_index.Goals as goal

pub returns-then-is_empty-clause-index : goal.returns-then-is_empty-clause-index
returns-then-is_empty-clause-index c =
    let text = c.args.text.now in
    let key = c.args.key.now in
    let none : eqb (length text) 0 ≡ true = search rules in
    let empty : text ≡ [] = nil_from_length text (eqb-true (length text) 0 none) in
    rw empty (sym (index_none 0 key [] (none_in_empty key c.requires) refl))

pub loop-limit-init : goal.loop-limit-init
loop-limit-init c =
    let text = c.args.text.now in
    let key = c.args.key.now in
    let some : 0 < length text = search rules in
    let limit : c.min-limit.result ≡ min 15 (length text - 1) = search rules in
    record { within = omega arith; same = rw limit (from_last key text c.requires some) }

pub returns-then-begins_with-clause-index : goal.returns-then-begins_with-clause-index
returns-then-begins_with-clause-index c =
    let text = c.args.text.now in
    let key = c.args.key.now in
    let index = c.last_byte-index.result in
    let there : begins_with key (drop index text) ≡ true =
    ap (begins_with key) (sym (take_rest text index)) ∙ sym c.begins_with.ensures ∙ c.if-begins_with.true in
    sym (c.loop-limit.invariant.same ∙ passed_over c.loop-limit.limit index key text c.last_byte-index.ensures.within
    c.loop-limit.invariant.within c.requires c.last_byte-index.ensures.none ∙ index_found index key text there)

pub returns-then-index-eq0-clause-index : goal.returns-then-index-eq0-clause-index
returns-then-index-eq0-clause-index c =
    let text = c.args.text.now in
    let key = c.args.key.now in
    let index = c.last_byte-index.result in
    let other : begins_with key (drop index text) ≡ false =
    ap (begins_with key) (sym (take_rest text index)) ∙ sym c.begins_with.ensures ∙ c.if-begins_with.false in
    sym (c.loop-limit.invariant.same ∙ passed_over c.loop-limit.limit index key text c.last_byte-index.ensures.within
    c.loop-limit.invariant.within c.requires c.last_byte-index.ensures.none
    ∙ index_none index key text other c.if-index-eq0.true)

pub loop-limit-preserved : goal.loop-limit-preserved
loop-limit-preserved c =
    let text = c.args.text.now in
    let key = c.args.key.now in
    let index = c.last_byte-index.result in
    let other : begins_with key (drop index text) ≡ false =
    ap (begins_with key) (sym (take_rest text index)) ∙ sym c.begins_with.ensures ∙ c.if-begins_with.false in
    record {
      within = omega arith;
      same = c.loop-limit.invariant.same ∙ passed_over c.loop-limit.limit index key text
          c.last_byte-index.ensures.within c.loop-limit.invariant.within c.requires c.last_byte-index.ensures.none
          ∙ index_below index key text other c.if-index-eq0.false;
    }

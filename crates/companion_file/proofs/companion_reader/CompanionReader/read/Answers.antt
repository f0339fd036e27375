use Rattle.std.proofs.Common.{Result, Ok, Err, length, ◌++◌, ◌∷◌, [], sym, ap, subst, ◌∙◌, append_assoc, refl}
use Rattle.std.specs.Prelude.{OnErr, OnOk}
use Rattle.std.specs.Result.{result_from_control_flow}
use Rattle.cfs_model.specs.declared.memory.Memory.{Memory}
use Rattle.std.proofs.lemmas.Bool.{eqb-true}
use Rattle.std.proofs.lemmas.List.{append-nil, nil_from_length}
use Rattle.std.specs.List.{before_first}
use Rattle.text_parts.specs.Lines.{is_line_feed, lines_of}
use Rattle.text_parts.proofs.TextLines.{lines_of_nil}
use Rattle.companion_file.specs.Reader.{ReadsOn}
use Rattle.companion_file.proofs.Reader.{bad_stays, reads_nothing, reads_then}
use Rattle.companion_file.proofs.companion_reader.CompanionReader.read.Goals as goal

-- what is so is so on an error
on_error : {A E : Type 0} {P : Type 0} (result : Result A E) → P → OnErr result P
on_error (Ok x) so = tt
on_error (Err e) so = so

pub loop-rest-init : goal.loop-rest-init
loop-rest-init c = record { front = []; parts = refl; read = reads_nothing c.args.self.now }

pub returns-then-is_bad-clause-read : goal.returns-then-is_bad-clause-read
returns-then-is_bad-clause-read c =
    let before = c.loop-rest.invariant in
    let left = lines_of c.loop-rest.rest.now in
    subst (λ ls. ReadsOn c.args.self.now ls c.loop-rest.self) (sym before.parts)
    (reads_then c.args.self.now c.loop-rest.self c.loop-rest.self before.front left before.read
    (bad_stays c.loop-rest.self left (sym c.is_bad.ensures ∙ c.if-is_bad.true)))

pub loop-rest-preserved : goal.loop-rest-preserved
loop-rest-preserved c =
    let before = c.loop-rest.invariant in
    let line = before_first is_line_feed c.loop-rest.rest.now in
    let after = c.take_next-taken.result.1.now in
    let new = c.take_next-taken.new.self in
    let read = subst (λ (r : Result Unit Memory). OnOk r (ReadsOn c.loop-rest.self (line ∷ []) new))
    (c.branch-taken.ensures ∙ ap (λ b. result_from_control_flow b) c.in_ok-taken.is) c.take_next-taken.ensures.read in
    record {
      front = before.front ++ line ∷ [];
      parts = before.parts ∙ ap (λ ls. before.front ++ ls) c.take_next-taken.ensures.lines
          ∙ sym (append_assoc before.front (line ∷ []) (lines_of after));
      read = reads_then c.args.self.now c.loop-rest.self new before.front (line ∷ []) before.read read;
    }

pub returns-clause-read : goal.returns-clause-read
returns-clause-read c =
    let before = c.loop-rest.invariant in
    let none = ap lines_of (nil_from_length c.loop-rest.rest.now
    (eqb-true (length c.loop-rest.rest.now) 0 (sym c.is_empty.ensures ∙ c.loop-rest-test.false))) ∙ lines_of_nil in
    let whole = before.parts ∙ ap (λ ls. before.front ++ ls) none ∙ append-nil before.front in
    subst (λ ls. ReadsOn c.args.self.now ls c.loop-rest.self) (sym whole) before.read

pub returns-in_err-taken-clause-memory : goal.returns-in_err-taken-clause-memory
returns-in_err-taken-clause-memory c =
    let before = c.loop-rest.invariant in
    let new = c.take_next-taken.new.self in
    let memory = subst (λ (r : Result Unit Memory). OnErr r (ReadsOn c.loop-rest.self [] new))
    (c.branch-taken.ensures ∙ ap (λ b. result_from_control_flow b) c.in_err-taken.is)
    c.take_next-taken.ensures.memory in
    on_error c.from_residual.result (
      before.front ++ [],
      lines_of c.loop-rest.rest.now,
      before.parts ∙ ap (λ ls. ls ++ lines_of c.loop-rest.rest.now) (sym (append-nil before.front)),
      reads_then c.args.self.now c.loop-rest.self new before.front [] before.read memory,
    )

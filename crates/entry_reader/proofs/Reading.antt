-- What a reader has read, one line on: while none was bad, their events; then the first bad one.
use Rattle.std.proofs.Common.{◌≡◌, ℕ, ◌+◌, ◌≤◌, List, [], ◌∷◌, ◌++◌, Some, None, Ok, true, ap, subst, append_assoc}
use Rattle.std.proofs.Common.{◌∙◌}
use Rattle.std.proofs.Common.{sym}
use Rattle.std.proofs.lemmas.List.{append-nil}
use Rattle.std.specs.Prelude.{is_some}
use Rattle.cfs_model.specs.declared.act.Entry.{Entry}
use Rattle.entry_reader.specs.Reader.{HasReadOut, IsReadOut}
use Rattle.entry_reader.specs.declared.reader.EntryReader.{EntryReader}
use Rattle.sched_record.specs.ReadLines.{AreKept, AreRead}
use Rattle.sched_record.specs.Said.{LineSays}
use Rattle.sched_record.specs.Trace.{IsFirstBadTraceLine}
use Rattle.sched_record.proofs.Lines.{adds, passes_over}
use Rattle.sched_record.proofs.Order.{keeps_event, keeps_on}
use Rattle.sched_record.proofs.Reader.{still_first, where_some}

-- events of so many lines, the last at this time, in order
pub record AreReadInOrder (lines : List (List ℕ)) (count last : ℕ) (events : List Entry) : Type 0 where
  pub read : AreRead lines count last events
  pub kept : AreKept events count last

-- the next line says nothing that is kept
pub on_nothing : (lines : List (List ℕ)) (count last : ℕ) (events : List Entry) (line : List ℕ)
    → AreReadInOrder lines count last events → LineSays (count + 1) line (Ok None)
    → AreReadInOrder (lines ++ line ∷ []) (count + 1) last events
on_nothing lines count last events line are says = record {
  read = passes_over line are.read says;
  kept = keeps_on events count last are.kept;
}

-- the next line says an event that isn't earlier
pub on_event : (lines : List (List ℕ)) (count last : ℕ) (given held : List Entry) (line : List ℕ) (event : Entry)
    → AreReadInOrder lines count last (given ++ held) → LineSays (count + 1) line (Ok (Some event)) → last ≤ event.time
    → AreReadInOrder (lines ++ line ∷ []) (count + 1) event.time (given ++ (held ++ event ∷ []))
on_event lines count last given held line event are says le =
    let events = given ++ held in
    subst (λ es. AreReadInOrder (lines ++ line ∷ []) (count + 1) event.time es)
    (append_assoc given held (event ∷ []))
    (record {
      read = adds line event are.read are.kept.times says le;
      kept = keeps_event events count last line event are.kept says le;
    })

-- a reader with a bad line has read whatever follows
pub bad_stays : (reader : EntryReader) (lines more : List (List ℕ)) (given : List Entry) → is_some reader.bad ≡ true
    → HasReadOut reader lines given → HasReadOut reader (lines ++ more) given
bad_stays reader lines more given some read =
    where_some (IsReadOut reader lines given) (IsReadOut reader (lines ++ more) given)
    (λ bad. IsFirstBadTraceLine lines bad.line bad.cause)
    (λ bad. IsFirstBadTraceLine (lines ++ more) bad.line bad.cause) reader.bad some
    (λ bad is. still_first lines more bad.line bad.cause is) read

-- events that are held are given, and none is held
pub emptied : (lines : List (List ℕ)) (count last : ℕ) (given held none : List Entry) → none ≡ []
    → AreReadInOrder lines count last (given ++ held) → AreReadInOrder lines count last ((given ++ held) ++ none)
emptied lines count last given held none e are =
    subst (λ es. AreReadInOrder lines count last es)
    (sym (append-nil (given ++ held)) ∙ ap (λ es. (given ++ held) ++ es) (sym e)) are

-- A window with one more event, which was the first that waited.
use Rattle.std.proofs.Common.{◌≡◌, ℕ, ◌+◌, ◌<◌, ◌≤◌, List, [], ◌∷◌, ◌++◌, length, take, drop, cond, sym, ap, ◌∙◌}
use Rattle.std.proofs.Common.{subst, arith, Result, Ok, Err}
use Rattle.std.specs.Result.{OnOk}
use Rattle.std.proofs.lemmas.List.{length-take-le, length_push}
use Rattle.cfs_model.specs.Limits.{most_processors}
use Rattle.cfs_model.specs.declared.act.Entry.{Entry}
use Rattle.sched_record.specs.Indices.{AreIndicesOf, indices_at, touches_cpu}
use Rattle.sched_record.specs.Window.{said_beside, said_of}
use Rattle.sched_record.specs.declared.window.Saying.{Saying}
use Rattle.sched_record.proofs.Indexing.{indexed_more}
use Rattle.sched_record.proofs.Windows.{front_more, one_waits, rest_waits, said_more}

pub on_ok : {T E P : Type 0} (r : Result T E) → P → OnOk r P
on_ok (Ok x) p = p
on_ok (Err e) p = tt

module _ (events : List Entry) (sayings more : List Saying) (event : Entry) (saying : Saying) (rest : List Entry)
    (waits : drop (length sayings) events ≡ event ∷ rest) (pushed : more ≡ sayings ++ saying ∷ []) where
  -- so many are said
  pub size_with : length more ≡ length sayings + 1
  size_with = ap length pushed ∙ length_push sayings saying

  pub still_paired : length more ≤ length events
  still_paired =
      (let n = one_waits events (length sayings) event rest waits in let m = size_with in omega (arith, n, m))

  pub said_with : said_beside events more ≡ said_beside events sayings ++ said_of event saying ∷ []
  said_with = ap (said_beside events) pushed ∙ said_more events sayings event rest saying waits

  pub waits_then : drop (length more) events ≡ rest
  waits_then = ap (λ n. drop n events) size_with ∙ rest_waits events (length sayings) event rest waits

  pub indexed_with : (lists later : List (List ℕ)) (index : ℕ) → length sayings ≤ length events
      → index ≡ length sayings → AreIndicesOf (take (length sayings) events) lists
      → ((cpu : ℕ) → cpu < most_processors → indices_at later cpu ≡ indices_at lists cpu
      ++ cond (touches_cpu cpu event.act) (index ∷ []) [])
      → AreIndicesOf (take (length more) events) later
  indexed_with lists later index paired is_last indexed added =
      subst (λ es. AreIndicesOf es later)
      (sym (ap (λ n. take n events) size_with ∙ front_more events (length sayings) event rest waits))
      (indexed_more (take (length sayings) events) lists later event index indexed
      (is_last ∙ sym (length-take-le (length sayings) events paired)) added)

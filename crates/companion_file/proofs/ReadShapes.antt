-- The shape of a line, both ways: what is spelled is read, and what is read is spelled, but for numbers far out of
-- their limits. The first word decides which shape is tried.
use Rattle.std.proofs.Common.{◌≡◌, ◌⊎◌, ℕ, ◌≤◌, cond, eqb, ltb, List, ◌++◌, length, min, ℤ, Option, Some, None}
use Rattle.std.proofs.Common.{false, refl, sym, ap, subst, ◌∙◌, inl, inr, arith}
use Rattle.std.specs.Prelude.{codes}
use Rattle.std.specs.Option.{option_map_or}
use Rattle.std.proofs.lemmas.Bool.{cases_Bool}
use Rattle.std.proofs.lemmas.Bool.Decides.{nat_tests}
use Rattle.cfs_model.specs.declared.task.Place.{Place}
use Rattle.cfs_model.specs.declared.claim.ClaimSort.{ClaimSort}
use Rattle.cfs_model.specs.declared.claim.ClaimSort.TheVariants.{At, Pass}
use Rattle.text_parts.specs.Numerals.{many}
use Rattle.text_parts.specs.Reading.{◌>>=◌, after_text, time_at}
use Rattle.text_parts.proofs.Runs.{bind_some, text_taken}
use Rattle.text_parts.proofs.Words.{time_from_word}
use Rattle.std.proofs.lemmas.Option.{same_Some}
use Rattle.companion_file.specs.Shape.{Shape, version_line, cpus_line, start_line, floor_line, task_line, claim_line}
use Rattle.companion_file.specs.Shape.{nice_line, idle_line, charge_line}
use Rattle.companion_file.specs.Spelling.{place_word, sort_word, IsSpelled}
use Rattle.companion_file.specs.ShapeReading.{number_field, number_whole, integer_field, integer_whole, place_field}
use Rattle.companion_file.specs.ShapeReading.{version_shape_at, cpus_shape_at, start_shape_at, floor_shape_at}
use Rattle.companion_file.specs.ShapeReading.{task_shape_at, claim_shape_at, nice_shape_at, idle_shape_at}
use Rattle.companion_file.specs.ShapeReading.{charge_shape_at, front_shape_at, shape_at}
use Rattle.companion_file.proofs.Clip.{clip, clip_integer}
use Rattle.companion_file.proofs.Starts.{start_again}
use Rattle.companion_file.proofs.ReadFields.{spaced_from, number_field_again, number_whole_again, integer_field_again}
use Rattle.companion_file.proofs.ReadFields.{integer_whole_again, place_field_again, number_field_taken}
use Rattle.companion_file.proofs.ReadFields.{number_whole_taken, integer_field_taken, integer_whole_taken}
use Rattle.companion_file.proofs.ReadFields.{place_field_taken}
use Rattle.cfs_model.specs.declared.policy.Policy.TheVariants.{Normal}

-- ---- what is spelled is read

pub claim_tried : (version : ℕ) (sort : ClaimSort) (rest : List ℕ)
    → shape_at version (spaced_from (sort_word sort) rest) ≡ claim_shape_at sort rest
unfolding shape_at after_text
claim_tried version At rest = refl
claim_tried version Pass rest = refl

task_tried : (version : ℕ) (rest : List ℕ) → shape_at version (spaced_from (codes "task") rest) ≡ task_shape_at rest
unfolding shape_at after_text
task_tried version rest = refl

floor_tried : (version : ℕ) (rest : List ℕ) → shape_at version (spaced_from (codes "floor") rest) ≡ floor_shape_at rest
unfolding shape_at after_text
floor_tried version rest = refl

nice_tried : (version : ℕ) (rest : List ℕ) → shape_at version (spaced_from (codes "nice") rest) ≡ nice_shape_at version
    rest
unfolding shape_at after_text
nice_tried version rest = refl

idle_tried : (version : ℕ) (rest : List ℕ) → shape_at version (spaced_from (codes "idle") rest) ≡ idle_shape_at version
    rest
unfolding shape_at after_text
idle_tried version rest = refl

pub charge_tried : (version : ℕ) (rest : List ℕ)
    → shape_at version (spaced_from (codes "charge") rest) ≡ charge_shape_at version rest
unfolding shape_at after_text
charge_tried version rest = refl

-- the version has what a least version has
pub not_below : (least version : ℕ) → least ≤ version → ltb version least ≡ false
not_below least version le = grind (arith, nat_tests)

not_above : (least version : ℕ) → ltb version least ≡ false → least ≤ version
not_above least version e = grind (arith, nat_tests)

start_tried : (version : ℕ) (rest : List ℕ) → shape_at version (spaced_from (codes "start") rest) ≡ start_shape_at rest
unfolding shape_at front_shape_at after_text
start_tried version rest = refl

cpus_tried : (version : ℕ) (rest : List ℕ) → shape_at version (spaced_from (codes "cpus") rest) ≡ cpus_shape_at rest
unfolding shape_at front_shape_at after_text
cpus_tried version rest = refl

version_tried : (version : ℕ) (rest : List ℕ) → shape_at version
    (spaced_from (codes "cfs-companion") rest) ≡ version_shape_at rest
unfolding shape_at front_shape_at after_text
version_tried version rest = refl

pub shape_again : (version : ℕ) (line : List ℕ) (x : Shape) → IsSpelled version line x
    → shape_at version line ≡ Some (clip x)
unfolding version_shape_at cpus_shape_at floor_shape_at task_shape_at claim_shape_at nice_shape_at idle_shape_at
    charge_shape_at
shape_again version line (version_line n) p =
    ap (shape_at version) p.2 ∙ version_tried version p.0 ∙ rw (number_whole_again p.0 n p.1) refl
shape_again version line (cpus_line n) p =
    ap (shape_at version) p.2 ∙ cpus_tried version p.0 ∙ rw (number_whole_again p.0 n p.1) refl
shape_again version line (start_line seconds nanoseconds) p =
    ap (shape_at version) p.2 ∙ start_tried version p.0 ∙ start_again p.0 seconds nanoseconds p.1
shape_again version line (floor_line cpu floor) p =
    ap (shape_at version) p.4 ∙ floor_tried version (spaced_from p.0 p.1)
    ∙ rw (number_field_again p.0 p.1 cpu p.2, integer_whole_again p.1 floor p.3) refl
shape_again version line (task_line t) p =
    let last = spaced_from (place_word t.place) p.4 in
    ap (shape_at version) p.9 ∙ task_tried version (spaced_from p.1 (spaced_from p.2 (spaced_from p.3 last)))
    ∙ rw (
      number_field_again p.1 (spaced_from p.2 (spaced_from p.3 last)) t.pid p.5,
      integer_field_again p.2 (spaced_from p.3 last) t.nice p.6,
      number_field_again p.3 last t.cpu p.7,
      place_field_again t.place p.4,
      integer_whole_again p.4 t.v p.8,
      p.0,
    ) refl
shape_again version line (claim_line k) p =
    ap (shape_at version) p.6 ∙ claim_tried version k.sort (spaced_from p.0 (spaced_from p.1 p.2))
    ∙ rw (
      number_field_again p.0 (spaced_from p.1 p.2) k.line p.3,
      number_field_again p.1 p.2 k.pid p.4,
      integer_whole_again p.2 k.v p.5,
    ) refl
shape_again version line (nice_line k) p =
    ap (shape_at version) p.7 ∙ nice_tried version (spaced_from p.1 (spaced_from p.2 p.3))
    ∙ rw (
      not_below 2 version p.0,
      number_field_again p.1 (spaced_from p.2 p.3) k.line p.4,
      number_field_again p.2 p.3 k.pid p.5,
      integer_whole_again p.3 k.nice p.6,
    ) refl
shape_again version line (idle_line k) p =
    ap (shape_at version) p.5 ∙ idle_tried version (spaced_from p.1 p.2)
    ∙ rw (not_below 2 version p.0, number_field_again p.1 p.2 k.line p.3, number_whole_again p.2 k.pid p.4) refl
shape_again version line (charge_line k) p =
    ap (shape_at version) p.7 ∙ charge_tried version (spaced_from p.1 (spaced_from p.2 p.3))
    ∙ rw (
      not_below 3 version p.0,
      number_field_again p.1 (spaced_from p.2 p.3) k.line p.4,
      number_field_again p.2 p.3 k.pid p.5,
      integer_whole_again p.3 k.v p.6,
    ) refl

-- ---- what is read is spelled

-- the line spells what was read
abbrev pub IsShapeFound : ℕ → List ℕ → Shape → Type 0
IsShapeFound version line y = (x : Shape) × IsSpelled version line x × (y ≡ clip x)

same_floor_line : (c d : ℕ) (v w : ℤ) → c ≡ d → v ≡ w → floor_line c v ≡ floor_line d w
same_floor_line c d v w e f = rw (e, f) refl

pub same_claim : (l m p q : ℕ) (v w : ℤ) (sort : ClaimSort) → l ≡ m → p ≡ q → v ≡ w
    → claim_line (record { line = l; pid = p; v = v; sort = sort }) ≡ claim_line
    (record { line = m; pid = q; v = w; sort = sort })
same_claim l m p q v w sort e f g = rw (e, f, g) refl

same_nice : (l m p q : ℕ) (v w : ℤ) → l ≡ m → p ≡ q → v ≡ w
    → nice_line (record { line = l; pid = p; nice = v }) ≡ nice_line (record { line = m; pid = q; nice = w })
same_nice l m p q v w e f g = rw (e, f, g) refl

pub same_charge : (l m p q : ℕ) (v w : ℤ) → l ≡ m → p ≡ q → v ≡ w
    → charge_line (record { line = l; pid = p; v = v }) ≡ charge_line (record { line = m; pid = q; v = w })
same_charge l m p q v w e f g = rw (e, f, g) refl

same_idle : (l m p q : ℕ) → l ≡ m → p ≡ q → idle_line (record { line = l; pid = p }) ≡ idle_line
    (record { line = m; pid = q })
same_idle l m p q e f = rw (e, f) refl

same_task_line : (p q : ℕ) (n o : ℤ) (c d : ℕ) (v w : ℤ) (place : Place) → p ≡ q → n ≡ o → c ≡ d → v ≡ w
    → task_line (record { pid = p; nice = n; policy = Normal; cpu = c; place = place; v = v }) ≡ task_line
    (record { pid = q; nice = o; policy = Normal; cpu = d; place = place; v = w })
same_task_line p q n o c d v w place e f g h = rw (e, f, g, h) refl

version_found : (version : ℕ) (rest : List ℕ) (y : Shape) → version_shape_at rest ≡ Some y
    → IsShapeFound version (spaced_from (codes "cfs-companion") rest) y
unfolding version_shape_at
version_found version rest y e =
    let a = bind_some (number_whole rest) (λ n. Some (version_line 0)) y e in
    let t = number_whole_taken rest a.0 a.1 in
    (version_line t.0, (rest, t.1, refl), sym (same_Some (version_line 0) y a.2))

cpus_found : (version : ℕ) (rest : List ℕ) (y : Shape) → cpus_shape_at rest ≡ Some y
    → IsShapeFound version (spaced_from (codes "cpus") rest) y
unfolding cpus_shape_at
cpus_found version rest y e =
    let a = bind_some (number_whole rest) (λ n. Some (cpus_line n)) y e in
    let t = number_whole_taken rest a.0 a.1 in
    (cpus_line t.0, (rest, t.1, refl), sym (same_Some (cpus_line a.0) y a.2) ∙ ap cpus_line t.2)

start_found : (version : ℕ) (rest : List ℕ) (y : Shape) → start_shape_at rest ≡ Some y
    → IsShapeFound version (spaced_from (codes "start") rest) y
unfolding start_shape_at
start_found version rest y e =
    let a = bind_some (time_at rest) (λ time. cond (eqb (length time.2) 0) (Some (start_line time.0 time.1)) None) y
    e in
    elim (cases_Bool (eqb (length a.0.2) 0)) [
      | inl end ↦
          let t = time_from_word rest a.0.0 a.0.1 a.0.2 a.1 end in
          let found : Some (start_line a.0.0 a.0.1) ≡ Some y = rw end at a.2 in (
            start_line t.0 a.0.1,
            (rest, t.1, refl),
            sym (same_Some (start_line a.0.0 a.0.1) y found)
                ∙ ap (λ (s : ℕ). start_line s a.0.1) t.2,
          )
      | inr more ↦ let none : None ≡ Some y = rw more at a.2 in absurd cc
    ]

floor_found : (version : ℕ) (rest : List ℕ) (y : Shape) → floor_shape_at rest ≡ Some y
    → IsShapeFound version (spaced_from (codes "floor") rest) y
unfolding floor_shape_at
floor_found version rest y e =
    let a = bind_some (number_field rest) (λ cpu. integer_whole cpu.1 >>= λ floor. Some (floor_line cpu.0 floor)) y e in
    let b = bind_some (integer_whole a.0.1) (λ floor. Some (floor_line a.0.0 floor)) y a.2 in
    let t0 = number_field_taken rest a.0.0 a.0.1 a.1 in
    let t1 = integer_whole_taken a.0.1 b.0 b.1 in (
      floor_line t0.exact t1.0,
      (t0.word, a.0.1, t0.spelled, t1.1, ap (λ (s : List ℕ). spaced_from (codes "floor") s) t0.whole),
      sym (same_Some (floor_line a.0.0 b.0) y b.2) ∙ same_floor_line a.0.0 (min t0.exact many) b.0 (clip_integer t1.0)
          t0.value t1.2,
    )

claim_found : (version : ℕ) (sort : ClaimSort) (rest : List ℕ) (y : Shape) → claim_shape_at sort rest ≡ Some y
    → IsShapeFound version (spaced_from (sort_word sort) rest) y
unfolding claim_shape_at
claim_found version sort rest y e =
    let a = bind_some (number_field rest) (λ line. number_field line.1 >>= λ pid. integer_whole pid.1 >>= λ v. Some
    (claim_line (record { line = line.0; pid = pid.0; v = v; sort = sort }))) y e in
    let b = bind_some (number_field a.0.1) (λ pid. integer_whole pid.1 >>= λ v. Some
    (claim_line (record { line = a.0.0; pid = pid.0; v = v; sort = sort }))) y a.2 in
    let c = bind_some (integer_whole b.0.1) (λ v. Some
    (claim_line (record { line = a.0.0; pid = b.0.0; v = v; sort = sort }))) y b.2 in
    let t0 = number_field_taken rest a.0.0 a.0.1 a.1 in
    let t1 = number_field_taken a.0.1 b.0.0 b.0.1 b.1 in
    let t2 = integer_whole_taken b.0.1 c.0 c.1 in (
      claim_line (record { line = t0.exact; pid = t1.exact; v = t2.0; sort = sort }),
      (
        t0.word,
        t1.word,
        b.0.1,
        t0.spelled,
        t1.spelled,
        t2.1,
        ap (λ (s : List ℕ). spaced_from (sort_word sort) s) (t0.whole
            ∙ ap (λ (s : List ℕ). spaced_from t0.word s) t1.whole),
      ),
      sym (same_Some (claim_line (record { line = a.0.0; pid = b.0.0; v = c.0; sort = sort })) y c.2)
          ∙ same_claim a.0.0 (min t0.exact many) b.0.0 (min t1.exact many) c.0 (clip_integer t2.0) sort t0.value
          t1.value t2.2,
    )

nice_found : (version : ℕ) (rest : List ℕ) (y : Shape) → nice_shape_at version rest ≡ Some y
    → IsShapeFound version (spaced_from (codes "nice") rest) y
unfolding nice_shape_at
nice_found version rest y e =
    elim (cases_Bool (ltb version 2)) [
      | inl early ↦ let none : None ≡ Some y = rw early at e in absurd cc
      | inr has ↦
          let read : (number_field rest >>= λ line. number_field line.1 >>= λ pid. integer_whole pid.1 >>= λ nice. Some
          (nice_line (record { line = line.0; pid = pid.0; nice = nice }))) ≡ Some y = rw has at e in
          let a = bind_some (number_field rest) (λ line. number_field line.1 >>= λ pid. integer_whole pid.1 >>= λ nice.
          Some (nice_line (record { line = line.0; pid = pid.0; nice = nice }))) y read in
          let b = bind_some (number_field a.0.1) (λ pid. integer_whole pid.1 >>= λ nice. Some
          (nice_line (record { line = a.0.0; pid = pid.0; nice = nice }))) y a.2 in
          let c = bind_some (integer_whole b.0.1) (λ nice. Some
          (nice_line (record { line = a.0.0; pid = b.0.0; nice = nice }))) y b.2 in
          let t0 = number_field_taken rest a.0.0 a.0.1 a.1 in
          let t1 = number_field_taken a.0.1 b.0.0 b.0.1 b.1 in
          let t2 = integer_whole_taken b.0.1 c.0 c.1 in (
            nice_line (record { line = t0.exact; pid = t1.exact; nice = t2.0 }),
            (
              not_above 2 version has,
              t0.word,
              t1.word,
              b.0.1,
              t0.spelled,
              t1.spelled,
              t2.1,
              ap (λ (s : List ℕ). spaced_from (codes "nice") s) (t0.whole
                  ∙ ap (λ (s : List ℕ). spaced_from t0.word s) t1.whole),
            ),
            sym (same_Some (nice_line (record { line = a.0.0; pid = b.0.0; nice = c.0 })) y c.2)
                ∙ same_nice a.0.0 (min t0.exact many) b.0.0 (min t1.exact many) c.0 (clip_integer t2.0) t0.value
                t1.value t2.2,
          )
    ]

charge_found : (version : ℕ) (rest : List ℕ) (y : Shape) → charge_shape_at version rest ≡ Some y
    → IsShapeFound version (spaced_from (codes "charge") rest) y
unfolding charge_shape_at
charge_found version rest y e =
    elim (cases_Bool (ltb version 3)) [
      | inl early ↦ let none : None ≡ Some y = rw early at e in absurd cc
      | inr has ↦
          let read : (number_field rest >>= λ line. number_field line.1 >>= λ pid. integer_whole pid.1 >>= λ v. Some
          (charge_line (record { line = line.0; pid = pid.0; v = v }))) ≡ Some y = rw has at e in
          let a = bind_some (number_field rest) (λ line. number_field line.1 >>= λ pid. integer_whole pid.1 >>= λ v.
          Some (charge_line (record { line = line.0; pid = pid.0; v = v }))) y read in
          let b = bind_some (number_field a.0.1) (λ pid. integer_whole pid.1 >>= λ v. Some
          (charge_line (record { line = a.0.0; pid = pid.0; v = v }))) y a.2 in
          let c = bind_some (integer_whole b.0.1) (λ v. Some
          (charge_line (record { line = a.0.0; pid = b.0.0; v = v }))) y b.2 in
          let t0 = number_field_taken rest a.0.0 a.0.1 a.1 in
          let t1 = number_field_taken a.0.1 b.0.0 b.0.1 b.1 in
          let t2 = integer_whole_taken b.0.1 c.0 c.1 in (
            charge_line (record { line = t0.exact; pid = t1.exact; v = t2.0 }),
            (
              not_above 3 version has,
              t0.word,
              t1.word,
              b.0.1,
              t0.spelled,
              t1.spelled,
              t2.1,
              ap (λ (s : List ℕ). spaced_from (codes "charge") s) (t0.whole
                  ∙ ap (λ (s : List ℕ). spaced_from t0.word s) t1.whole),
            ),
            sym (same_Some (charge_line (record { line = a.0.0; pid = b.0.0; v = c.0 })) y c.2)
                ∙ same_charge a.0.0 (min t0.exact many) b.0.0 (min t1.exact many) c.0 (clip_integer t2.0) t0.value
                t1.value t2.2,
          )
    ]

idle_found : (version : ℕ) (rest : List ℕ) (y : Shape) → idle_shape_at version rest ≡ Some y
    → IsShapeFound version (spaced_from (codes "idle") rest) y
unfolding idle_shape_at
idle_found version rest y e =
    elim (cases_Bool (ltb version 2)) [
      | inl early ↦ let none : None ≡ Some y = rw early at e in absurd cc
      | inr has ↦
          let read : (number_field rest >>= λ line. number_whole line.1 >>= λ pid. Some
          (idle_line (record { line = line.0; pid = pid }))) ≡ Some y = rw has at e in
          let a = bind_some (number_field rest) (λ line. number_whole line.1 >>= λ pid. Some
          (idle_line (record { line = line.0; pid = pid }))) y read in
          let b = bind_some (number_whole a.0.1) (λ pid. Some (idle_line (record { line = a.0.0; pid = pid }))) y a.2 in
          let t0 = number_field_taken rest a.0.0 a.0.1 a.1 in
          let t1 = number_whole_taken a.0.1 b.0 b.1 in (
            idle_line (record { line = t0.exact; pid = t1.0 }),
            (
              not_above 2 version has,
              t0.word,
              a.0.1,
              t0.spelled,
              t1.1,
              ap (λ (s : List ℕ). spaced_from (codes "idle") s) t0.whole,
            ),
            sym (same_Some (idle_line (record { line = a.0.0; pid = b.0 })) y b.2)
                ∙ same_idle a.0.0 (min t0.exact many) b.0 (min t1.0 many) t0.value t1.2,
          )
    ]

task_found : (version : ℕ) (rest : List ℕ) (y : Shape) → task_shape_at rest ≡ Some y
    → IsShapeFound version (spaced_from (codes "task") rest) y
unfolding task_shape_at
task_found version rest y e =
    let a = bind_some (number_field rest) (λ pid. integer_field pid.1 >>= λ nice. number_field nice.1 >>= λ cpu.
    place_field cpu.1 >>= λ place. integer_whole place.1 >>= λ v. Some
    (task_line (record { pid = pid.0; nice = nice.0; policy = Normal; cpu = cpu.0; place = place.0; v = v }))) y e in
    let b = bind_some (integer_field a.0.1) (λ nice. number_field nice.1 >>= λ cpu. place_field cpu.1 >>= λ place.
    integer_whole place.1 >>= λ v. Some (task_line
    (record { pid = a.0.0; nice = nice.0; policy = Normal; cpu = cpu.0; place = place.0; v = v }))) y a.2 in
    let c = bind_some (number_field b.0.1) (λ cpu. place_field cpu.1 >>= λ place. integer_whole place.1 >>= λ v. Some
    (task_line (record { pid = a.0.0; nice = b.0.0; policy = Normal; cpu = cpu.0; place = place.0; v = v }))) y b.2 in
    let d = bind_some (place_field c.0.1) (λ place. integer_whole place.1 >>= λ v. Some
    (task_line (record { pid = a.0.0; nice = b.0.0; policy = Normal; cpu = c.0.0; place = place.0; v = v }))) y c.2 in
    let f = bind_some (integer_whole d.0.1) (λ v. Some
    (task_line (record { pid = a.0.0; nice = b.0.0; policy = Normal; cpu = c.0.0; place = d.0.0; v = v }))) y d.2 in
    let t0 = number_field_taken rest a.0.0 a.0.1 a.1 in
    let t1 = integer_field_taken a.0.1 b.0.0 b.0.1 b.1 in
    let t2 = number_field_taken b.0.1 c.0.0 c.0.1 c.1 in
    let t3 = place_field_taken c.0.1 d.0.0 d.0.1 d.1 in
    let t4 = integer_whole_taken d.0.1 f.0 f.1 in
    let whole : rest ≡ spaced_from t0.word (spaced_from t1.word
    (spaced_from t2.word (spaced_from (place_word d.0.0) d.0.1))) =
    t0.whole ∙ ap (λ (s : List ℕ). spaced_from t0.word s) (t1.whole
    ∙ ap (λ (s : List ℕ). spaced_from t1.word s) (t2.whole ∙ ap (λ (s : List ℕ). spaced_from t2.word s) t3)) in (
      task_line (record { pid = t0.exact; nice = t1.exact; policy = Normal; cpu = t2.exact; place = d.0.0; v = t4.0 }),
      (
        refl,
        t0.word,
        t1.word,
        t2.word,
        d.0.1,
        t0.spelled,
        t1.spelled,
        t2.spelled,
        t4.1,
        ap (λ (s : List ℕ). spaced_from (codes "task") s) whole,
      ),
      sym (same_Some (task_line (record {
        pid = a.0.0;
        nice = b.0.0;
        policy = Normal;
        cpu = c.0.0;
        place = d.0.0;
        v = f.0;
      })) y f.2)
          ∙ same_task_line a.0.0 (min t0.exact many) b.0.0 (clip_integer t1.exact) c.0.0 (min t2.exact many) f.0
          (clip_integer t4.0) d.0.0 t0.value t1.value t2.value t4.2,
    )

-- the shape that is tried gave the answer, or a later one did
tried : (f : List ℕ → Option Shape) (behind : Option (List ℕ)) (later : Option Shape) (y : Shape)
    → option_map_or f behind later ≡ Some y
    → ((rest : List ℕ) × (behind ≡ Some rest) × (f rest ≡ Some y)) ⊎ (later ≡ Some y)
tried f (Some rest) later y e = inl (rest, refl, e)
tried f None later y e = inr e

-- what was found behind the first word is found in the line
moved : (version : ℕ) (word line rest : List ℕ) (y : Shape) → after_text (word ++ codes " ") line ≡ Some rest
    → (word ++ codes " ") ++ rest ≡ spaced_from word rest → IsShapeFound version (spaced_from word rest) y
    → IsShapeFound version line y
moved version word line rest y e same found =
    subst (λ (s : List ℕ). IsShapeFound version s y) (sym (text_taken (word ++ codes " ") line rest e ∙ same)) found

front_found : (version : ℕ) (line : List ℕ) (y : Shape) → front_shape_at line ≡ Some y → IsShapeFound version line y
unfolding front_shape_at
front_found version line y e =
    elim (tried start_shape_at (after_text (codes "start ") line) _ y e) [
      | inl p ↦ moved version (codes "start") line p.0 y p.1 refl (start_found version p.0 y p.2)
      | inr f ↦ elim (tried cpus_shape_at (after_text (codes "cpus ") line) _ y f) [
        | inl p ↦ moved version (codes "cpus") line p.0 y p.1 refl (cpus_found version p.0 y p.2)
        | inr g ↦ elim (tried version_shape_at (after_text (codes "cfs-companion ") line) None y g) [
          | inl p ↦ moved version (codes "cfs-companion") line p.0 y p.1 refl (version_found version p.0 y p.2)
          | inr h ↦ absurd cc
        ]
      ]
    ]

pub shape_taken : (version : ℕ) (line : List ℕ) (y : Shape) → shape_at version line ≡ Some y
    → IsShapeFound version line y
unfolding shape_at
shape_taken version line y e =
    elim (tried (claim_shape_at At) (after_text (codes "at ") line) _ y e) [
      | inl p ↦ moved version (codes "at") line p.0 y p.1 refl (claim_found version At p.0 y p.2)
      | inr f ↦ elim (tried (claim_shape_at Pass) (after_text (codes "pass ") line) _ y f) [
        | inl p ↦ moved version (codes "pass") line p.0 y p.1 refl (claim_found version Pass p.0 y p.2)
        | inr g ↦ elim (tried (charge_shape_at version) (after_text (codes "charge ") line) _ y g) [
          | inl p ↦ moved version (codes "charge") line p.0 y p.1 refl (charge_found version p.0 y p.2)
          | inr h ↦ elim (tried task_shape_at (after_text (codes "task ") line) _ y h) [
            | inl p ↦ moved version (codes "task") line p.0 y p.1 refl (task_found version p.0 y p.2)
            | inr i ↦ elim (tried floor_shape_at (after_text (codes "floor ") line) _ y i) [
              | inl p ↦ moved version (codes "floor") line p.0 y p.1 refl (floor_found version p.0 y p.2)
              | inr j ↦ elim (tried (nice_shape_at version) (after_text (codes "nice ") line) _ y j) [
                | inl p ↦ moved version (codes "nice") line p.0 y p.1 refl (nice_found version p.0 y p.2)
                | inr k ↦ elim (tried (idle_shape_at version) (after_text (codes "idle ") line)
                    (front_shape_at line) y k) [
                      | inl p ↦ moved version (codes "idle") line p.0 y p.1 refl (idle_found version p.0 y p.2)
                      | inr l ↦ front_found version line y l
                    ]
              ]
            ]
          ]
        ]
      ]
    ]

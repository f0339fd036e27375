-- The plain companion is read, and joins with every trace whose processors it has: its first three lines and then one
-- floor after another, each good after those before it.
use Rattle.std.proofs.Common.{length-append, ◌≡◌, ℕ, ◌+◌, ◌<◌, Bool, true, false, ◌&&◌, List, [], ◌∷◌, ◌++◌}
use Rattle.std.proofs.Common.{length, map, Some, None, Ok, refl, sym, ap, subst, ◌∙◌, inl, inr, arith, codes}
use Rattle.std.specs.Prelude.{pos, All, MatchOption, nat_lt, ◌==◌}
use Rattle.std.specs.List.{list_all}
use Rattle.std.proofs.lemmas.Bool.{ltb-true, lt-ltb, eqb-true, eq-eqb, ne_eqb}
use Rattle.std.proofs.lemmas.List.Elements.{All-nil}
use Rattle.cfs_model.specs.declared.act.Entry.{Entry}
use Rattle.cfs_model.specs.Limits.{most_processors}
use Rattle.text_parts.specs.Lines.{lines_of, is_comment, IsComment}
use Rattle.text_parts.specs.Numerals.{is_digit, value_of}
use Rattle.companion_file.specs.Shape.{Shape, version_line, cpus_line, start_line, floor_line}
use Rattle.companion_file.specs.Spelling.{IsNumber, IsSpelled, IsControlGroup}
use Rattle.companion_file.specs.Earlier.{Said, summed}
use Rattle.companion_file.specs.Tests.{fault_of, tested, IsJudged, IsJudgedFirst, IsJudgedLater}
use Rattle.companion_file.specs.Companion.{CompanionView, CompanionAnswer, AreGood}
use Rattle.companion_file.proofs.Summing.{summed-push}
use Rattle.sched_record.specs.Join.{GoTogether, BeginsInTime, IsInside}
use Rattle.companion_maker.specs.Fitting.{ReadsAndJoins}
use Rattle.companion_maker.specs.Unguessed.{floor_words, floor_text, plain_lines, plain}

split_plain : lines_of plain ≡ plain_lines
unfolding lines_of plain
split_plain = refl

-- ---- one floor after another

-- a word stands for a number
abbrev stands_for : List ℕ → ℕ → Bool
stands_for word n = nat_lt 0 (length word) && (list_all is_digit word && (value_of word == n))

-- words stand for numbers from this one up
abbrev stand_from : ℕ → List (List ℕ) → Bool
stand_from n [] = true
stand_from n (word ∷ words) = stands_for word n && stand_from (n + 1) words

and_left : (a b : Bool) → (a && b) ≡ true → a ≡ true
and_left true b e = refl
and_left false b e = absurd cc

and_right : (a b : Bool) → (a && b) ≡ true → b ≡ true
and_right true b e = e
and_right false b e = absurd cc

number_stood_for : (word : List ℕ) (n : ℕ) → stands_for word n ≡ true → IsNumber word n
number_stood_for word n e =
    let some = and_left (nat_lt 0 (length word)) _ e in
    let rest = and_right (nat_lt 0 (length word)) _ e in
    let all = and_left (list_all is_digit word) _ rest in
    let value = and_right (list_all is_digit word) _ rest in
    record {
      digits = record { some = ltb-true 0 (length word) some; all = all };
      value =
          sym (eqb-true (value_of word) n value);
    }

-- the first three lines were said, and so many floors
record IsBegun (said : Said) (cpu : ℕ) : Type 0 where
  version_is : said.version ≡ Some 2
  cpus_is : said.cpus ≡ Some 64
  start_is : said.start ≡ Some 0
  floors_are : length said.floors ≡ cpu

-- what is said with these floors
abbrev with_floors : List Shape → ℕ → List (List ℕ) → List Shape
with_floors earlier cpu [] = earlier
with_floors earlier cpu (word ∷ words) = with_floors (earlier ++ floor_line cpu (pos 0) ∷ []) (cpu + 1) words

floor_passes : (said : Said) (cpu : ℕ) → IsBegun said cpu → cpu < 64 → fault_of said (floor_line cpu (pos 0)) ≡ None
floor_passes said cpu begun below =
    let fewer : (cpu == 64) ≡ false = ne_eqb cpu 64 (λ e. absurd (omega (arith, e, below))) in
    let within : nat_lt cpu 64 ≡ true = lt-ltb cpu 64 below in
    let same : (cpu == cpu) ≡ true = eq-eqb cpu cpu refl in
    simp (begun.cpus_is, begun.start_is, begun.floors_are, fewer, within, same)

no_comment : (word : List ℕ) → ¬ IsComment (floor_text word)
unfolding is_comment
no_comment word = λ comment. absurd cc

abbrev first_byte : List ℕ → ℕ
first_byte [] = 0
first_byte (byte ∷ text) = byte

abbrev second_byte : List ℕ → ℕ
second_byte [] = 0
second_byte (byte ∷ text) = first_byte text

-- a line that begins otherwise is of no control group
not_control : (line : List ℕ) → (first_byte line ≡ 99 → second_byte line ≡ 103 → ⊥) → ¬ IsControlGroup line
not_control line other (inl e) = other (ap first_byte e) (ap second_byte e)
not_control line other (inr p) = other (ap first_byte p.1) (ap second_byte p.1)

floor_no_group : (word : List ℕ) → ¬ IsControlGroup (floor_text word)
floor_no_group word group = not_control (floor_text word) (λ e f. let no : 102 ≡ 99 = e in
    absurd (omega (arith, no))) group

zero_number : IsNumber (codes "0") 0
zero_number = record { digits = record { some = omega arith; all = refl }; value = refl }

floor_spelled : (word : List ℕ) (cpu : ℕ) → IsNumber word cpu → IsSpelled 2 (floor_text word) (floor_line cpu (pos 0))
floor_spelled word cpu number = (word, codes "0", number, inl (0, zero_number, refl), refl)

-- a line that is spelled so, and passes the tests, is good
judged_good : (said : Said) (line : List ℕ) (x : Shape) → said.version ≡ Some 2 → ¬ IsControlGroup line
    → IsSpelled 2 line x → fault_of said x ≡ None → IsJudged said line (Ok x)
judged_good said line x begun plain spelled passed =
    let ok : Ok x ≡ tested said x = rw passed refl in
    subst (λ o. MatchOption o (IsJudgedFirst line (Ok x)) (λ v. IsJudgedLater v said line (Ok x))) (sym begun)
    (inr (inr (plain, (x, spelled, ok))))

begun_on : (earlier : List Shape) (cpu : ℕ) → IsBegun (summed earlier) cpu
    → IsBegun (summed (earlier ++ floor_line cpu (pos 0) ∷ [])) (cpu + 1)
begun_on earlier cpu begun =
    subst (λ said. IsBegun said (cpu + 1)) (sym (summed-push earlier (floor_line cpu (pos 0))))
    (record {
      version_is = begun.version_is;
      cpus_is = begun.cpus_is;
      start_is = begun.start_is;
      floors_are =
          length-append (summed earlier).floors (pos 0 ∷ []) ∙ ap (λ n. n + 1) begun.floors_are;
    })

floors_good : (words : List (List ℕ)) (earlier : List Shape) (cpu : ℕ) → stand_from cpu words ≡ true
    → cpu + length words ≡ 64 → IsBegun (summed earlier) cpu
    → AreGood earlier (map floor_text words) (with_floors earlier cpu words)
floors_good [] earlier cpu counted all begun = refl
floors_good (word ∷ words) earlier cpu counted all begun =
    let number = number_stood_for word cpu (and_left (stands_for word cpu) _ counted) in
    let x = floor_line cpu (pos 0) in
    let passed = floor_passes (summed earlier) cpu begun (omega (arith, all)) in
    inr (
      no_comment word,
      (
        x,
        judged_good (summed earlier) (floor_text word) x begun.version_is (floor_no_group word)
            (floor_spelled word cpu number) passed,
        floors_good words (earlier ++ x ∷ []) (cpu + 1) (and_right (stands_for word cpu) _ counted) (omega (arith, all))
            (begun_on earlier cpu begun),
      ),
    )

-- ---- the whole

abbrev front : List Shape
front = version_line 2 ∷ cpus_line 64 ∷ start_line 0 0 ∷ []

abbrev said_lines : List Shape
said_lines = with_floors front 0 floor_words

floors_all : AreGood front (map floor_text floor_words) said_lines
floors_all = floors_good floor_words front 0 refl refl
    (record { version_is = refl; cpus_is = refl; start_is = refl; floors_are = refl })

start_spelled : IsSpelled 2 (codes "start 0.000000") (start_line 0 0)
start_spelled = (
  codes "0.000000",
  record {
    whole_digits = codes "0";
    whole_numeral = record { some = omega arith; all = refl };
    whole_value =
        refl;
    fraction_digits = codes "000000";
    fraction_numeral =
        record { some = omega arith; all = refl };
    fraction_value = inl (refl, refl);
    whole = refl;
  },
  refl,
)

cpus_spelled : IsSpelled 2 (codes "cpus 64") (cpus_line 64)
cpus_spelled = (codes "64", record { digits = record { some = omega arith; all = refl }; value = refl }, refl)

cpus_no_group : ¬ IsControlGroup (codes "cpus 64")
cpus_no_group = not_control (codes "cpus 64") (λ e f. let no : 112 ≡ 103 = f in absurd (omega (arith, no)))

start_no_group : ¬ IsControlGroup (codes "start 0.000000")
start_no_group = not_control (codes "start 0.000000") (λ e f. let no : 115 ≡ 99 = e in absurd (omega (arith, no)))

plain_good : AreGood [] plain_lines said_lines
unfolding is_comment
plain_good =
    inr (
      (λ comment. absurd cc),
      (
        version_line 2,
        inl (2, inr (inl (refl, refl)), refl),
        inr (
          (λ comment. absurd cc),
          (
            cpus_line 64,
            judged_good (summed (version_line 2 ∷ [])) (codes "cpus 64")
                (cpus_line 64) refl cpus_no_group cpus_spelled refl,
            inr (
              (λ comment. absurd cc),
              (
                start_line 0 0,
                judged_good (summed (version_line 2 ∷ cpus_line 64 ∷ [])) (codes "start 0.000000")
                    (start_line 0 0) refl start_no_group start_spelled refl,
                floors_all,
              ),
            ),
          ),
        ),
      ),
    )

-- what the plain companion says
abbrev said_plainly : CompanionView
said_plainly = record {
  cpus = 64;
  start = 0;
  floors = (summed said_lines).floors;
  tasks = [];
  claims = [];
  nices =
      [];
  idles = [];
  charges = [];
}

plain_read : CompanionAnswer plain (Ok said_plainly)
plain_read =
    rw split_plain
    (record {
      said = said_lines;
      good = plain_good;
      whole = refl;
      cpus_is = refl;
      start_is = refl;
      floors_is =
          refl;
      tasks_is = refl;
      claims_is = refl;
      nices_is = refl;
      idles_is = refl;
      charges_is = refl;
    })

begins_late : (events : List Entry) → BeginsInTime 0 events
begins_late [] = tt
begins_late (event ∷ events) = omega arith

plain_joins : (events : List Entry) → All (IsInside most_processors) events → GoTogether events said_plainly
plain_joins events inside = record {
  inside = inside;
  in_time = begins_late events;
  claimed = All-nil _;
  reniced =
      All-nil _;
  born = All-nil _;
  charged = All-nil _;
}

-- the plain companion fits each trace whose processors are those that it has
pub plain_fits : (text : List ℕ) → text ≡ plain → (events : List Entry) → All (IsInside most_processors) events
    → ReadsAndJoins events text
plain_fits text same events inside = (
  said_plainly,
  subst (λ t. CompanionAnswer t (Ok said_plainly))
      (sym same) plain_read,
  plain_joins events inside,
)

-- The fields of a usual line: each stands behind its key with no line feed in it, so all of them stand in the first
-- line of the text, and what is read of them is what that line says.
use Rattle.std.proofs.Common.{◌≡◌, ◌≢◌, ℕ, zero, suc, ◌+◌, ◌<◌, ◌≤◌, Bool, true, false, not, leb, List, [], ◌∷◌, ◌++◌}
use Rattle.std.proofs.Common.{length, map, get_or, take, drop, Some, None, Ok, refl}
use Rattle.std.proofs.Common.{sym, ap, subst, ◌∙◌, arith}
use Rattle.std.specs.Prelude.{codes, IsTrue}
use Rattle.std.specs.List.{before_first, after_first, list_all, position_or_len, prefix_len, take_while}
use Rattle.std.specs.Simd.Lanes.{mask_l}
use Rattle.std.proofs.lemmas.Bool.{and_parts, and_from, ltb-true, leb-false, ne_eqb}
use Rattle.std.proofs.lemmas.List.{append-nil, length-append, length-drop, length-take-le, take-append-drop}
use Rattle.std.proofs.lemmas.Simd.{trailing_mask_l, run_in_chunk_le, run_in_chunk_fails}
use lib.Count.{count_trailing_zeros}
use Rattle.std.proofs.lemmas.List.Folds.{list_any_more}
use Rattle.cfs_model.specs.declared.act.Act.{Act}
use Rattle.ftrace_line.specs.declared.kinds.Which.{Which}
use Rattle.ftrace_line.specs.declared.kinds.Which.TheVariants as kinds
use Rattle.ftrace_line.specs.Line.{LineAnswer, other, sched}
use Rattle.ftrace_line.specs.Usual.{HasFront}
use Rattle.ftrace_line.proofs.Fronts.{digits_unbroken}
use Rattle.text_parts.specs.Lines.{is_line_feed, lines_of}
use Rattle.text_parts.specs.Unbroken.{IsUnbroken}
use Rattle.text_parts.specs.Numerals.{IsNumeral}
use Rattle.text_parts.specs.Pieces.{joined}
use Rattle.text_parts.specs.Reading.{after_text}
use Rattle.text_parts.proofs.Runs.{front_is_run, text_taken}
use Rattle.text_parts.proofs.TextLines.{lines_of_next}
use Rattle.text_parts.proofs.Unbroken.{unbroken_run, first_line_behind, rest_behind, joined_behind, joined_unbroken}
use Rattle.sched_event.specs.Event.{EventView, EventAnswer, act_of}
use Rattle.sched_event.specs.Judging.{judged, judged_if_read, answer_at}
use Rattle.sched_event.specs.Reading.{numeral_behind, prio_behind}
use Rattle.sched_event.specs.Texts.{IsName, IsState, is_dark, Prio, prio_text, SwitchText, WakeupText, MigrationText}
use Rattle.sched_event.specs.Texts.{EventText, switch, wakeup, wakeup_new, migration, Reads}
use Rattle.sched_event.specs.Usual.{is_plain, HasField, HasFields, HasAct, IsUsual}
use Rattle.sched_event.specs.declared.usual.UsualEvent.{UsualEvent}
use Rattle.sched_event.proofs.Answering.{answers, event_text_again}
use Rattle.sched_event.proofs.Keyed.{numeral_behind_takes, prio_behind_takes}

-- ---- one field

plain_unbroken : (byte : ℕ) → is_plain byte ≡ true → is_line_feed byte ≡ false
plain_unbroken byte e = ne_eqb byte 10 (λ same. omega (arith, ltb-true 32 byte e))

plain_is_dark : (byte : ℕ) → is_plain byte ≡ true → is_dark byte ≡ true
plain_is_dark byte e = rw (ne_eqb byte 32 (λ same. omega (arith, ltb-true 32 byte e))) refl

pub plain_are_dark : (s : List ℕ) → IsTrue (list_all is_plain s) → IsTrue (list_all is_dark s)
plain_are_dark [] all = refl
plain_are_dark (byte ∷ s) all =
    let p = and_parts (is_plain byte) (list_all is_plain s) all in
    and_from (is_dark byte) (list_all is_dark s) (plain_is_dark byte p.0) (plain_are_dark s p.1)

pub plain_are_unbroken : (s : List ℕ) → IsTrue (list_all is_plain s) → IsUnbroken s
plain_are_unbroken s all = unbroken_run is_plain plain_unbroken s all

pub field_stands : (key text after field rest : List ℕ) → text ≡ key ++ after → after ≡ field ++ rest
    → IsUnbroken field → HasField key text field rest
field_stands key text after field rest behind parts unbroken =
    record { unbroken = unbroken; parts = behind ∙ ap (λ (t : List ℕ). key ++ t) parts }

-- bytes above the space, so many as a text begins with
pub above_unbroken : (s : List ℕ) (n : ℕ) → n ≤ length s → ((index : ℕ) → index < n → 32 < get_or s index 0)
    → IsUnbroken (take n s)
above_unbroken s zero within above = refl
above_unbroken s (suc n) within above =
    let up : suc n ≡ n + 1 = omega arith in
    let last : is_line_feed (get_or s n 0) ≡ false =
    ne_eqb (get_or s n 0) 10 (λ same. omega (arith, same, above n (omega arith))) in
    rw (
      up,
      list_any_more is_line_feed s n 0 (omega arith),
      above_unbroken s n (omega arith) (λ index lt. above index (omega arith)),
      last,
    ) refl

-- the lowest bit of a space or a control character among sixteen bytes
pub record FirstGap (text : List ℕ) (first : ℕ) : Type 0 where
  pub within : first ≤ 16
  pub plain : IsUnbroken (take first text)

pub first_gap_at : (text : List ℕ) (mask : ℕ) → 16 ≤ length text
    → mask ≡ mask_l (map (λ byte. leb byte 32) (take 16 text)) → (mask ≡ 0 → ⊥)
    → FirstGap text (count_trailing_zeros 64 mask)
first_gap_at text mask long is some =
    let is_gap : ℕ → Bool = λ byte. leb byte 32 in
    let first : ℕ = count_trailing_zeros 64 mask in
    let front : length (take 16 text) ≡ 16 = length-take-le 16 text long in
    let counted : first ≡ prefix_len (λ byte. not (is_gap byte)) (take 16 text) =
    ap (count_trailing_zeros 64) is
    ∙ trailing_mask_l is_gap 64 (take 16 text) (omega (arith, front)) (omega (arith, is, some)) in
    let room : 0 + 16 ≤ length text = omega arith in
    let within : first ≤ 16 = run_in_chunk_le is_gap text 0 16 first 0 room counted in
    record {
      within = within;
      plain = above_unbroken text first (omega (arith, within, long)) (λ index lt.
          leb-false (get_or text index 0) 32
          (run_in_chunk_fails is_gap text 0 16 first 0 room counted index (omega arith) (omega (arith, lt))));
    }

-- and one more byte that isn't a line feed
pub one_more_unbroken : (s : List ℕ) (n : ℕ) → n < length s → get_or s n 0 ≢ 10 → IsUnbroken (take n s)
    → IsUnbroken (take (n + 1) s)
one_more_unbroken s n within differs unbroken =
    rw (list_any_more is_line_feed s n 0 within, unbroken, ne_eqb (get_or s n 0) 10 differs) refl

pub name_field : (key text after front rest : List ℕ) (index : ℕ) → after_text key text ≡ Some after
    → IsUnbroken (take index after) → front ≡ take index after → rest ≡ drop index after
    → HasField key text front rest
name_field key text after front rest index behind unbroken front_is rest_is =
    field_stands key text after front rest (text_taken key text after behind)
    (sym (take-append-drop index after) ∙ rw (front_is, rest_is) refl) (subst IsUnbroken (sym front_is) unbroken)

pub record HasState (key text front rest : List ℕ) : Type 0 where
  pub form : IsState front
  pub field : HasField key text front rest

pub state_field : (key text after front rest : List ℕ) (count : ℕ) → after_text key text ≡ Some after
    → count ≡ prefix_len is_plain after → (count ≡ 0 → ⊥) → front ≡ take count after → rest ≡ drop count after
    → HasState key text front rest
state_field key text after front rest count behind counted some front_is rest_is =
    let run = front_is_run is_plain after (omega (arith, counted, some)) in
    let long : front ≡ take_while is_plain after = front_is ∙ ap (λ n. take n after) counted in
    let plain : IsUnbroken (take_while is_plain after) = plain_are_unbroken (take_while is_plain after) run.all in
    record {
      form = subst IsState (sym long) (record {
        some = run.some;
        all = plain_are_dark (take_while is_plain after) run.all;
      });
      field = name_field key text after front rest count behind
          (subst IsUnbroken (sym long ∙ front_is) plain) front_is rest_is;
    }

numeral_stands : (key text digits rest : List ℕ) → numeral_behind key text ≡ Some (digits, rest)
    → HasField key text digits rest
numeral_stands key text digits rest e =
    let takes = numeral_behind_takes key text digits rest e in
    record { unbroken = digits_unbroken digits takes.0; parts = takes.1.parts }

prio_unbroken : (minus : Bool) (digits : List ℕ) → IsNumeral digits
    → IsUnbroken (prio_text (record { minus = minus; digits = digits }))
prio_unbroken true digits is = rw (digits_unbroken digits is) refl
prio_unbroken false digits is = digits_unbroken digits is

prio_stands : (key text : List ℕ) (prio : Prio) (rest : List ℕ) → prio_behind key text ≡ Some (prio, rest)
    → HasField key text (prio_text prio) rest
prio_stands key text prio rest e =
    let takes = prio_behind_takes key text prio rest e in
    record { unbroken = prio_unbroken prio.minus prio.digits takes.0; parts = takes.1.parts }

-- ---- the fields of an event

-- the fields of a switch, one behind the other
pub record SwitchFront (text : List ℕ) (t : SwitchText) (rest : List ℕ) : Type 0 where
  pub after1 : List ℕ
  pub after2 : List ℕ
  pub after3 : List ℕ
  pub after4 : List ℕ
  pub after5 : List ℕ
  pub after6 : List ℕ
  pub prev_short : IsName t.prev_name
  pub prev_name : HasField (codes "prev_comm=") text t.prev_name after1
  pub prev : numeral_behind (codes " prev_pid=") after1 ≡ Some (t.prev, after2)
  pub prev_prio : prio_behind (codes " prev_prio=") after2 ≡ Some (t.prev_prio, after3)
  pub state_form : IsState t.prev_state
  pub prev_state : HasField (codes " prev_state=") after3 t.prev_state after4
  pub next_short : IsName t.next_name
  pub next_name : HasField (codes " ==> next_comm=") after4 t.next_name after5
  pub next : numeral_behind (codes " next_pid=") after5 ≡ Some (t.next, after6)
  pub next_prio : prio_behind (codes " next_prio=") after6 ≡ Some (t.next_prio, rest)

pub switch_stands : (text : List ℕ) (t : SwitchText) (rest : List ℕ) → SwitchFront text t rest
    → HasFields kinds.Switch text (switch t) rest
switch_stands text t rest f =
    let prev = numeral_stands (codes " prev_pid=") f.after1 t.prev f.after2 f.prev in
    let prev_prio = prio_stands (codes " prev_prio=") f.after2 t.prev_prio f.after3 f.prev_prio in
    let next = numeral_stands (codes " next_pid=") f.after5 t.next f.after6 f.next in
    let next_prio = prio_stands (codes " next_prio=") f.after6 t.next_prio rest f.next_prio in
    let parts : List (List ℕ) = codes "prev_comm=" ∷ t.prev_name ∷ codes " prev_pid=" ∷ t.prev ∷ codes " prev_prio="
    ∷ prio_text t.prev_prio ∷ codes " prev_state=" ∷ t.prev_state ∷ codes " ==> next_comm=" ∷ t.next_name
    ∷ codes " next_pid=" ∷ t.next ∷ codes " next_prio=" ∷ prio_text t.next_prio ∷ [] in
    record {
      front = joined parts;
      unbroken = joined_unbroken parts (
        refl,
        (
          f.prev_name.unbroken,
          (
            refl,
            (
              prev.unbroken,
              (
                refl,
                (
                  prev_prio.unbroken,
                  (
                    refl,
                    (
                      f.prev_state.unbroken,
                      (
                        refl,
                        (
                          f.next_name.unbroken,
                          (
                            refl,
                            (
                              next.unbroken,
                              (
                                refl,
                                (next_prio.unbroken, tt),
                              ),
                            ),
                          ),
                        ),
                      ),
                    ),
                  ),
                ),
              ),
            ),
          ),
        ),
      );
      parts = f.prev_name.parts ∙ ap (λ (r : List ℕ). codes "prev_comm=" ++ (t.prev_name ++ r)) (prev.parts
          ∙ ap (λ (r : List ℕ). codes " prev_pid=" ++ (t.prev ++ r)) (prev_prio.parts
          ∙ ap (λ (r : List ℕ). codes " prev_prio=" ++ (prio_text t.prev_prio ++ r)) (f.prev_state.parts
          ∙ ap (λ (r : List ℕ). codes " prev_state=" ++ (t.prev_state ++ r)) (f.next_name.parts
          ∙ ap (λ (r : List ℕ). codes " ==> next_comm=" ++ (t.next_name ++ r)) (next.parts
          ∙ ap (λ (r : List ℕ). codes " next_pid=" ++ (t.next ++ r)) next_prio.parts)))))
          ∙ sym (joined_behind parts rest);
      reads = record {
        prev_name = f.prev_short;
        prev = (numeral_behind_takes (codes " prev_pid=") f.after1 t.prev f.after2 f.prev).0;
        prev_prio = (prio_behind_takes (codes " prev_prio=") f.after2 t.prev_prio f.after3 f.prev_prio).0;
        prev_state = f.state_form;
        next_name = f.next_short;
        next = (numeral_behind_takes (codes " next_pid=") f.after5 t.next f.after6 f.next).0;
        next_prio = (prio_behind_takes (codes " next_prio=") f.after6 t.next_prio rest f.next_prio).0;
        whole = refl;
      };
    }

-- the fields of a wakeup, one behind the other
pub record WakeupFront (text : List ℕ) (t : WakeupText) (rest : List ℕ) : Type 0 where
  pub after1 : List ℕ
  pub after2 : List ℕ
  pub after3 : List ℕ
  pub short : IsName t.name
  pub name : HasField (codes "comm=") text t.name after1
  pub pid : numeral_behind (codes " pid=") after1 ≡ Some (t.pid, after2)
  pub prio : prio_behind (codes " prio=") after2 ≡ Some (t.prio, after3)
  pub success : t.success ≡ None
  pub target : numeral_behind (codes " target_cpu=") after3 ≡ Some (t.target, rest)

pub wakeup_stands : (text name : List ℕ) (pid : List ℕ) (prio : Prio) (target rest : List ℕ)
    → WakeupFront text (record { name = name; pid = pid; prio = prio; success = None; target = target }) rest
    → HasFields kinds.Wakeup text
    (wakeup (record { name = name; pid = pid; prio = prio; success = None; target = target })) rest
wakeup_stands text name pid prio target rest f =
    let pid_field = numeral_stands (codes " pid=") f.after1 pid f.after2 f.pid in
    let prio_field = prio_stands (codes " prio=") f.after2 prio f.after3 f.prio in
    let target_field = numeral_stands (codes " target_cpu=") f.after3 target rest f.target in
    let parts : List (List ℕ) = codes "comm=" ∷ name ∷ codes " pid=" ∷ pid ∷ codes " prio=" ∷ prio_text prio ∷ []
    ∷ codes " target_cpu=" ∷ target ∷ [] in
    record {
      front = joined parts;
      unbroken = joined_unbroken parts (
        refl,
        (
          f.name.unbroken,
          (
            refl,
            (
              pid_field.unbroken,
              (
                refl,
                (prio_field.unbroken, (refl, (refl, (target_field.unbroken, tt)))),
              ),
            ),
          ),
        ),
      );
      parts = f.name.parts ∙ ap (λ (r : List ℕ). codes "comm=" ++ (name ++ r)) (pid_field.parts
          ∙ ap (λ (r : List ℕ). codes " pid=" ++ (pid ++ r)) (prio_field.parts
          ∙ ap (λ (r : List ℕ). codes " prio=" ++ (prio_text prio ++ r)) target_field.parts))
          ∙ sym (joined_behind parts rest);
      reads = record {
        name = f.short;
        pid = (numeral_behind_takes (codes " pid=") f.after1 pid f.after2 f.pid).0;
        prio = (prio_behind_takes (codes " prio=") f.after2 prio f.after3 f.prio).0;
        success = tt;
        target = (numeral_behind_takes (codes " target_cpu=") f.after3 target rest f.target).0;
        whole = refl;
      };
    }

-- a task that slept and a new one have the same fields
pub birth_stands : (text : List ℕ) (t : WakeupText) (rest : List ℕ) → HasFields kinds.Wakeup text (wakeup t) rest
    → HasFields kinds.WakeupNew text (wakeup_new t) rest
birth_stands text t rest f =
    record { front = f.front; unbroken = f.unbroken; parts = f.parts; reads = f.reads }

-- the fields of a migration, one behind the other
pub record MigrationFront (text : List ℕ) (t : MigrationText) (rest : List ℕ) : Type 0 where
  pub after1 : List ℕ
  pub after2 : List ℕ
  pub after3 : List ℕ
  pub after4 : List ℕ
  pub short : IsName t.name
  pub name : HasField (codes "comm=") text t.name after1
  pub pid : numeral_behind (codes " pid=") after1 ≡ Some (t.pid, after2)
  pub prio : prio_behind (codes " prio=") after2 ≡ Some (t.prio, after3)
  pub orig : numeral_behind (codes " orig_cpu=") after3 ≡ Some (t.orig, after4)
  pub dest : numeral_behind (codes " dest_cpu=") after4 ≡ Some (t.dest, rest)

pub migration_stands : (text : List ℕ) (t : MigrationText) (rest : List ℕ) → MigrationFront text t rest
    → HasFields kinds.MigrateTask text (migration t) rest
migration_stands text t rest f =
    let pid = numeral_stands (codes " pid=") f.after1 t.pid f.after2 f.pid in
    let prio = prio_stands (codes " prio=") f.after2 t.prio f.after3 f.prio in
    let orig = numeral_stands (codes " orig_cpu=") f.after3 t.orig f.after4 f.orig in
    let dest = numeral_stands (codes " dest_cpu=") f.after4 t.dest rest f.dest in
    let parts : List (List ℕ) = codes "comm=" ∷ t.name ∷ codes " pid=" ∷ t.pid ∷ codes " prio=" ∷ prio_text t.prio
    ∷ codes " orig_cpu=" ∷ t.orig ∷ codes " dest_cpu=" ∷ t.dest ∷ [] in
    record {
      front = joined parts;
      unbroken = joined_unbroken parts (
        refl,
        (
          f.name.unbroken,
          (
            refl,
            (
              pid.unbroken,
              (
                refl,
                (
                  prio.unbroken,
                  (
                    refl,
                    (orig.unbroken, (refl, (dest.unbroken, tt))),
                  ),
                ),
              ),
            ),
          ),
        ),
      );
      parts = f.name.parts ∙ ap (λ (r : List ℕ). codes "comm=" ++ (t.name ++ r)) (pid.parts
          ∙ ap (λ (r : List ℕ). codes " pid=" ++ (t.pid ++ r)) (prio.parts
          ∙ ap (λ (r : List ℕ). codes " prio=" ++ (prio_text t.prio ++ r)) (orig.parts
          ∙ ap (λ (r : List ℕ). codes " orig_cpu=" ++ (t.orig ++ r)) dest.parts)))
          ∙ sym (joined_behind parts rest);
      reads = record {
        name = f.short;
        pid = (numeral_behind_takes (codes " pid=") f.after1 t.pid f.after2 f.pid).0;
        prio = (prio_behind_takes (codes " prio=") f.after2 t.prio f.after3 f.prio).0;
        orig = (numeral_behind_takes (codes " orig_cpu=") f.after3 t.orig f.after4 f.orig).0;
        dest = (numeral_behind_takes (codes " dest_cpu=") f.after4 t.dest rest f.dest).0;
        whole = refl;
      };
    }

-- ---- what the line says

answer_of : (cpu : ℕ) (which : Which) (front : List ℕ) (read : EventText) (event : EventView) → Reads which front read
    → judged cpu read ≡ Ok event → EventAnswer cpu which front (Ok event)
unfolding answer_at
answer_of cpu which front read event reads says =
    subst (EventAnswer cpu which front) (ap (judged_if_read cpu) (event_text_again which front read reads) ∙ says)
    (answers cpu which front)

pub act_stands : (cpu : ℕ) (which : Which) (text : List ℕ) (read : EventText) (after rest : List ℕ) (event : EventView)
    (act : Act) → HasFields which text read after → before_first is_line_feed after ≡ []
    → rest ≡ after_first is_line_feed after → judged cpu read ≡ Ok event → act ≡ act_of event
    → HasAct cpu which text act rest
act_stands cpu which text read after rest event act f ends goes says does =
    let line : before_first is_line_feed text ≡ f.front = ap (before_first is_line_feed) f.parts
    ∙ first_line_behind f.front after f.unbroken ∙ ap (λ (t : List ℕ). f.front ++ t) ends ∙ append-nil f.front in
    record {
      event = event;
      answer = subst (λ (l : List ℕ). EventAnswer cpu which l (Ok event)) (sym line)
          (answer_of cpu which f.front read event f.reads says);
      act_is = does;
      rest_is = goes ∙ sym (ap (after_first is_line_feed) f.parts ∙ rest_behind f.front after f.unbroken);
    }

-- ---- the line

-- where the first line of a text ends, by what follows the front
record LineParts (text front behind rest : List ℕ) : Type 0 where
  line : before_first is_line_feed text ≡ front ++ before_first is_line_feed behind
  lines : lines_of text ≡ before_first is_line_feed text ∷ lines_of rest
  shorter : length rest < length text

line_parts : (text front behind rest : List ℕ) → 0 < length front → IsUnbroken front → text ≡ front ++ behind
    → rest ≡ after_first is_line_feed behind → LineParts text front behind rest
line_parts text front behind rest some unbroken parts goes =
    let long : 0 < length text = omega (arith, some, ap length parts, length-append front behind) in
    let left : after_first is_line_feed text ≡ rest = ap (after_first is_line_feed) parts
    ∙ rest_behind front behind unbroken ∙ sym goes in
    record {
      line = ap (before_first is_line_feed) parts ∙ first_line_behind front behind unbroken;
      lines = lines_of_next text long
          ∙ ap (λ (r : List ℕ). before_first is_line_feed text ∷ lines_of r) left;
      shorter = omega (arith, long, ap length left, length-drop (position_or_len is_line_feed text + 1) text);
    }

pub other_stands : (text : List ℕ) (cpu time : ℕ) (behind rest : List ℕ) → HasFront text cpu time None behind
    → rest ≡ after_first is_line_feed behind → IsUsual text None rest
other_stands text cpu time behind rest f goes =
    let l = line_parts text f.front behind rest f.some f.unbroken f.parts goes in
    record {
      says = subst (λ (line : List ℕ). LineAnswer line (Ok other)) (sym l.line) f.says;
      lines = l.lines;
      shorter = l.shorter;
    }

pub event_stands : (text : List ℕ) (cpu time : ℕ) (which : Which) (behind : List ℕ) (said : UsualEvent) (rest : List ℕ)
    → HasFront text cpu time (Some which) behind → HasAct cpu which behind said.act rest → said.time ≡ time
    → IsUsual text (Some said) rest
event_stands text cpu time which behind said rest f a at =
    let l = line_parts text f.front behind rest f.some f.unbroken f.parts a.rest_is in
    let fields : List ℕ = before_first is_line_feed behind in
    record {
      says = record {
        cpu = cpu;
        which = which;
        fields = fields;
        event = a.event;
        head = subst (λ (line : List ℕ). LineAnswer line (Ok (sched cpu said.time which fields))) (sym l.line)
            (subst (λ t. LineAnswer (f.front ++ fields) (Ok (sched cpu t which fields))) (sym at) (f.says fields));
        answer = a.answer;
        act_is = a.act_is;
      };
      lines = l.lines;
      shorter = l.shorter;
    }

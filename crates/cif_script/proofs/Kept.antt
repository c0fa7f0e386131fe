-- What is read has at most 16 sessions, its numbers name wires, and these are wires of the netlist.
use Rattle.std.specs.Prelude.{ℕ, suc, ◌≤◌, ◌≡◌, nat_le, Bool, true, false, ◌&&◌, List, [], ◌∷◌, ◌++◌, length, Option, Some, None, Result, Ok, Err, refl, if◌then◌else◌}
use Rattle.std.specs.List.{All, list_all}
use Rattle.std.proofs.Common.{arith, ap, ◌∙◌}
use Rattle.std.proofs.lemmas.List.{length-append}
use Rattle.std.proofs.lemmas.List.Folds.{list_all-append}
use Rattle.std.proofs.lemmas.List.Elements.{All-nil}
use Rattle.std.proofs.lemmas.Bool.Decides.{nat_tests}
use Rattle.cif_defs.specs.declared.nets.Wire.{Wire}
use Rattle.cif_defs.specs.declared.raw_module.Raw.{Raw}
use Rattle.cif_cells.specs.Finding.{FoundOf, a_wire, not_two_valued, missing, found_of}
use Rattle.cif_stimulus.specs.StimulusText.{NumberedLine}
use Rattle.cif_text.proofs.BoolTests.{both, and_true}
use Rattle.cif_script.specs.LineForms.{line_said}
use Rattle.cif_script.specs.Scripts.{ScriptData, IsKept, is_line_inside, is_inside, session_limit}
use Rattle.cif_script.specs.ScriptText.{is_begun, with_line, asked, shown, show_read, wires_with, wire_number, may_stand, said_read, if_said, line_read, lines_read, no_sessions, ◌and_then◌}
use Rattle.cif_script.specs.ShownWires.{IsWireOf, AreApart}
use Rattle.cif_script.specs.declared.fault.ScriptFault.{ScriptFault}
use Rattle.cif_script.specs.declared.fault.ScriptFault.TheVariants.{BadLine, TooManySessions, SameName}
use Rattle.cif_script.specs.declared.form.Said.{Said}
use Rattle.cif_script.specs.declared.form.Said.TheVariants as said
use Rattle.cif_script.specs.declared.session.Line.{Line}
use Rattle.cif_script.specs.declared.session.Line.TheVariants.{At, Next, Newest, Show}
use Rattle.cif_script.specs.declared.session.SessionScript.{SessionScript}
use Rattle.cif_script.proofs.FoundWires.{wire_is, all_wires}
use Rattle.cif_script.proofs.Places.{number_inside, wires_more, apart_with}

-- ---- more wires

line_more : (n m : ℕ) (l : Line) → n ≤ m → is_line_inside n l ≡ true → is_line_inside m l ≡ true
line_more n m (Show k) h i = grind (arith, nat_tests)
line_more n m (At k) h i = refl
line_more n m Next h i = refl
line_more n m Newest h i = refl

lines_more : (n m : ℕ) (ls : List Line) → n ≤ m → list_all (is_line_inside n) ls ≡ true → list_all (is_line_inside m) ls ≡ true
lines_more n m [] h i = refl
lines_more n m (l ∷ ls) h i =
    let p = both (is_line_inside n l) (list_all (is_line_inside n) ls) i in
    and_true (is_line_inside m l) (list_all (is_line_inside m) ls) (line_more n m l h p.0) (lines_more n m ls h p.1)

sessions_more : (n m : ℕ) (ss : List SessionScript) → n ≤ m → list_all (is_inside n) ss ≡ true → list_all (is_inside m) ss ≡ true
sessions_more n m [] h i = refl
sessions_more n m (s ∷ ss) h i =
    let p = both (is_inside n s) (list_all (is_inside n) ss) i in
    and_true (is_inside m s) (list_all (is_inside m) ss) (lines_more n m s.lines h p.0) (sessions_more n m ss h p.1)

-- ---- one line more

pub length_with : (l : Line) (ss : List SessionScript) → length (with_line l ss) ≡ length ss
length_with l [] = refl
length_with l (s ∷ []) = refl
length_with l (s ∷ t ∷ rest) = ap suc (length_with l (t ∷ rest))

line_added : (n : ℕ) (l : Line) (ls : List Line) → list_all (is_line_inside n) ls ≡ true → is_line_inside n l ≡ true → list_all (is_line_inside n) (ls ++ l ∷ []) ≡ true
line_added n l ls h i = list_all-append (is_line_inside n) ls (l ∷ []) ∙ and_true (list_all (is_line_inside n) ls) (is_line_inside n l && true) h (and_true (is_line_inside n l) true i refl)

inside_with : (n : ℕ) (l : Line) (ss : List SessionScript) → list_all (is_inside n) ss ≡ true → is_line_inside n l ≡ true → list_all (is_inside n) (with_line l ss) ≡ true
inside_with n l [] h i = refl
inside_with n l (s ∷ []) h i =
    and_true (list_all (is_line_inside n) (s.lines ++ l ∷ [])) true (line_added n l s.lines (both (is_inside n s) true h).0 i) refl
inside_with n l (s ∷ t ∷ rest) h i =
    let p = both (is_inside n s) (list_all (is_inside n) (t ∷ rest)) h in
    and_true (is_inside n s) (list_all (is_inside n) (with_line l (t ∷ rest))) p.0 (inside_with n l (t ∷ rest) p.1 i)

asked_kept : (l : Line) (script : ScriptData) → IsKept script → is_line_inside (length script.wires) l ≡ true → IsKept (asked l script)
asked_kept l script h i = record {
  few = (let e = length_with l script.sessions in let k = h.few in omega arith);
  inside = inside_with (length script.wires) l script.sessions h.inside i;
}

shown_kept : (w : Wire) (script : ScriptData) → IsKept script → IsKept (shown w script)
shown_kept w script h = record {
  few = (let e = length_with (Show (wire_number script.wires w)) script.sessions in let k = h.few in omega arith);
  inside = inside_with (length (wires_with script.wires w)) (Show (wire_number script.wires w)) script.sessions
      (sessions_more (length script.wires) (length (wires_with script.wires w)) script.sessions (wires_more script.wires w) h.inside)
      (let i = number_inside script.wires w in grind (arith, nat_tests));
}

abbrev with_session : ScriptData → List ℕ → ScriptData
with_session script name = record { sessions = script.sessions ++ record { name = name; lines = [] } ∷ []; wires = script.wires }

session_kept : (script : ScriptData) (name : List ℕ) → IsKept script → nat_le session_limit (length script.sessions) ≡ false → IsKept (with_session script name)
session_kept script name h m = record {
  few = rw length-append (grind (arith, nat_tests));
  inside = list_all-append (is_inside (length script.wires)) script.sessions (record { name = name; lines = [] } ∷ [])
      ∙ and_true (list_all (is_inside (length script.wires)) script.sessions) true h.inside refl;
}

-- ---- lines one after another

pub record IsSound (raw : Raw) (script : ScriptData) : Type 0 where
  pub kept : IsKept script
  pub found : All (IsWireOf raw) script.wires
  pub apart : AreApart script.wires

begun_sound : (raw : Raw) (script : ScriptData) (number : ℕ) (name : List ℕ) (out : ScriptData) (again many : Bool) → nat_le session_limit (length script.sessions) ≡ many → IsSound raw script
    → (if again then Err (SameName number) else if many then Err TooManySessions else Ok (with_session script name)) ≡ Ok out → IsSound raw out
begun_sound raw script number name out true many m h e = absurd (cc)
begun_sound raw script number name out false true m h e = absurd (cc)
begun_sound raw script number name out false false m h e =
    let same : with_session script name ≡ out = cc in
    rw (← same) (record { kept = session_kept script name h.kept m; found = h.found; apart = h.apart })

line_sound : (raw : Raw) (l : Line) (script out : ScriptData) → IsSound raw script → is_line_inside (length script.wires) l ≡ true → asked l script ≡ out → IsSound raw out
line_sound raw l script out h i same = rw (← same) (record { kept = asked_kept l script h.kept i; found = h.found; apart = h.apart })

found_sound : (raw : Raw) (script : ScriptData) (number : ℕ) (name : List ℕ) (found : FoundOf) (out : ScriptData) → found_of raw name ≡ found → IsSound raw script → show_read script number found ≡ Ok out → IsSound raw out
found_sound raw script number name (a_wire w) out f h e =
    let same : shown w script ≡ out = cc in
    rw (← same) (record { kept = shown_kept w script h.kept; found = all_wires raw script.wires w h.found (wire_is raw name w f); apart = apart_with script.wires w h.apart })
found_sound raw script number name not_two_valued out f h e = absurd (cc)
found_sound raw script number name missing out f h e = absurd (cc)

said_sound : (raw : Raw) (script : ScriptData) (number : ℕ) (line : Said) (out : ScriptData) → IsSound raw script → said_read raw script number line ≡ Ok out → IsSound raw out
said_sound raw script number (said.Session name) out h e = begun_sound raw script number name out (is_begun name script.sessions) (nat_le session_limit (length script.sessions)) refl h e
said_sound raw script number (said.At k) out h e = line_sound raw (At k) script out h refl (cc)
said_sound raw script number said.Next out h e = line_sound raw Next script out h refl (cc)
said_sound raw script number said.Newest out h e = line_sound raw Newest script out h refl (cc)
said_sound raw script number (said.Show name) out h e = found_sound raw script number name (found_of raw name) out refl h e

placed_sound : (raw : Raw) (script : ScriptData) (number : ℕ) (line : Said) (may : Bool) (out : ScriptData) → IsSound raw script → (if may then said_read raw script number line else Err (BadLine number)) ≡ Ok out → IsSound raw out
placed_sound raw script number line true out h e = said_sound raw script number line out h e
placed_sound raw script number line false out h e = absurd (cc)

if_said_sound : (raw : Raw) (script : ScriptData) (number : ℕ) (line : Option Said) (out : ScriptData) → IsSound raw script → if_said raw script number line ≡ Ok out → IsSound raw out
if_said_sound raw script number None out h e = absurd (cc)
if_said_sound raw script number (Some line) out h e = placed_sound raw script number line (may_stand script line) out h e

line_read_sound : (raw : Raw) (script : ScriptData) (l : NumberedLine) (out : ScriptData) → IsSound raw script → line_read raw script l ≡ Ok out → IsSound raw out
unfolding line_read
line_read_sound raw script l out h e = if_said_sound raw script l.number (line_said l.words) out h e

-- what both parts give, where all is read
abbrev Goes : Result ScriptData ScriptFault → (ScriptData → Result ScriptData ScriptFault) → ScriptData → Type 0
Goes r next out = (x : ScriptData) × ((r ≡ Ok x) × (next x ≡ Ok out))

went_on : (r : Result ScriptData ScriptFault) (next : ScriptData → Result ScriptData ScriptFault) (out : ScriptData) → (r and_then next) ≡ Ok out → Goes r next out
went_on (Ok x) next out h = (x, (refl, h))
went_on (Err e) next out h = absurd (cc)

all_sound : (raw : Raw) (script : ScriptData) (ls : List NumberedLine) (out : ScriptData) → IsSound raw script → lines_read raw script ls ≡ Ok out → IsSound raw out
all_sound raw script [] out h e = (let same : script ≡ out = cc in rw (← same) h)
all_sound raw script (l ∷ ls) out h e =
    let went = went_on (line_read raw script l) (λ next. lines_read raw next ls) out e in
    all_sound raw went.0 ls out (line_read_sound raw script l went.0 h went.1.0) went.1.1

pub read_sound : (raw : Raw) (ls : List NumberedLine) (out : ScriptData) → lines_read raw no_sessions ls ≡ Ok out → IsSound raw out
read_sound raw ls out e = all_sound raw no_sessions ls out (record { kept = record { few = omega arith; inside = refl }; found = All-nil (IsWireOf raw); apart = λ i below. absurd (omega arith) }) e

-- What a line gives, by its tests in their order.
use Rattle.std.specs.Prelude.{ℕ, ◌≡◌, ◌≤◌, ◌==◌, nat_lt, Bool, true, false, not, ◌&&◌, ◌||◌, List, [], ◌∷◌, length, reverse, bytes_eq, codes, Option, Some, None, is_some, option_map, option_and_then, Result, Ok, Err, refl}
use Rattle.std.proofs.Common.{arith, sym, ap, subst, ◌∙◌, if◌then◌else◌}
use Rattle.std.specs.List.{list_any, list_all}
use Rattle.std.proofs.lemmas.List.{length-map, length-reverse}
use Rattle.std.proofs.lemmas.Bool.{false≢true}
use Rattle.std.proofs.lemmas.Bool.Decides.{nat_tests, Decides-eqb}
use Rattle.cif_defs.specs.Stimulus.{Stimulus as StimulusData, TaintedWord, StimLine as LineData, reg_line, mem_line, release_line, cycle_line, set_line}
use Rattle.cif_defs.specs.RawModule.{is_binary}
use Rattle.cif_defs.specs.Text.{words_of, is_visible, number_read, decoded, with_byte, plain_byte, byte_of_digits}
use Rattle.cif_defs.specs.Words.{zeros}
use Rattle.cif_defs.specs.WordText.{word_of_text}
use Rattle.cif_defs.specs.declared.raw_module.Raw.{Raw}
use Rattle.cif_defs.specs.declared.nets.Src.{Src}
use Rattle.cif_defs.specs.declared.nets.Src.TheVariants.{Bit, Zero, One}
use Rattle.cif_defs.specs.declared.nets.Wire.{Wire}
use Rattle.cif_cells.specs.Finding.{FoundOf, a_wire, found_of}
use Rattle.cif_stimulus.specs.Fitting.{is_same_source, are_same_sources, is_found_as, has_name, has_address, has_width, is_again, is_of_width, is_reg_of, is_mem_of, is_release_of, is_set_among}
use Rattle.cif_stim_read.specs.Forms.{is_sayable, said_line}
use Rattle.cif_stim_read.specs.declared.form.Said.{Said}
use Rattle.cif_stim_read.specs.Given.{has, has_row}
use Rattle.cif_stimulus.specs.Places.{open_cycle, may_follow, is_word}
use Rattle.cif_stim_read.specs.Reading.{IsReading, IsFirst, Takes}
use Rattle.cif_stimulus.specs.StimulusText.{Head, if_said, unless, found_bits, line_read, tainted_said, reg_said, mem_said, set_said, release_said, cycle_said, said_by, line_said}
use Rattle.cif_stimulus.specs.StimulusView.{Adds}
use Rattle.cif_stimulus.specs.declared.fault.StimFault.{StimFault}
use Rattle.cif_stimulus.specs.declared.fault.StimFault.TheVariants.{BadLine, NoSuchName, WrongWidth, NoCycles, TooManyCycles, SetTwice, BadAddress, Memory}
use Rattle.cif_stim_read.specs.declared.given.NameSet.{NameSet}
use Rattle.cif_stim_read.specs.declared.given.RowSet.{RowSet}
use Rattle.cif_stim_read.specs.declared.reader.Reader.{Reader}
use Rattle.cif_text.proofs.Pieces as texts
use Rattle.cif_stimulus.proofs.LineOrder.{reverse_push, first_true, second_true, both_true}

-- ---- the tests in their order

abbrev pub fault_after : Bool → Bool → Bool → Bool → ℕ → Option StimFault
fault_after n a w g number = if not n then Some (NoSuchName number) else if not a then Some (BadAddress number) else if not w then Some (WrongWidth number) else if g then Some (SetTwice number) else None

abbrev pub by_tests : Bool → Bool → Bool → Bool → Bool → ℕ → LineData → Result LineData StimFault
by_tests m n a w g number line = if m then unless (fault_after n a w g number) line else Err (BadLine number)

pub step_is : (raw : Raw) (cycles : ℕ) (before : List LineData) (number : ℕ) (line : LineData) (m n a w g : Bool) → may_follow cycles before line ≡ m → has_name raw line ≡ n → has_address raw line ≡ a → has_width raw line ≡ w → is_again line before ≡ g
    → if_said raw cycles before number (Some line) ≡ by_tests m n a w g number line
step_is raw cycles before number line m n a w g em en ea ew eg =
    ap (λ b. by_tests b (has_name raw line) (has_address raw line) (has_width raw line) (is_again line before) number line) em
    ∙ ap (λ b. by_tests m b (has_address raw line) (has_width raw line) (is_again line before) number line) en
    ∙ ap (λ b. by_tests m n b (has_width raw line) (is_again line before) number line) ea
    ∙ ap (λ b. by_tests m n a b (is_again line before) number line) ew
    ∙ ap (λ b. by_tests m n a w b number line) eg

pub bad_place : (raw : Raw) (cycles : ℕ) (before : List LineData) (number : ℕ) (line : LineData) → may_follow cycles before line ≡ false → if_said raw cycles before number (Some line) ≡ Err (BadLine number)
bad_place raw cycles before number line m = step_is raw cycles before number line false (has_name raw line) (has_address raw line) (has_width raw line) (is_again line before) m refl refl refl refl

pub bad_name : (raw : Raw) (cycles : ℕ) (before : List LineData) (number : ℕ) (line : LineData) → may_follow cycles before line ≡ true → has_name raw line ≡ false → if_said raw cycles before number (Some line) ≡ Err (NoSuchName number)
bad_name raw cycles before number line m n = step_is raw cycles before number line true false (has_address raw line) (has_width raw line) (is_again line before) m n refl refl refl

pub bad_address : (raw : Raw) (cycles : ℕ) (before : List LineData) (number : ℕ) (line : LineData) → may_follow cycles before line ≡ true → has_name raw line ≡ true → has_address raw line ≡ false → if_said raw cycles before number (Some line) ≡ Err (BadAddress number)
bad_address raw cycles before number line m n a = step_is raw cycles before number line true true false (has_width raw line) (is_again line before) m n a refl refl

pub bad_width : (raw : Raw) (cycles : ℕ) (before : List LineData) (number : ℕ) (line : LineData) → may_follow cycles before line ≡ true → has_name raw line ≡ true → has_address raw line ≡ true → has_width raw line ≡ false → if_said raw cycles before number (Some line) ≡ Err (WrongWidth number)
bad_width raw cycles before number line m n a w = step_is raw cycles before number line true true true false (is_again line before) m n a w refl

pub given_again : (raw : Raw) (cycles : ℕ) (before : List LineData) (number : ℕ) (line : LineData) → may_follow cycles before line ≡ true → has_name raw line ≡ true → has_address raw line ≡ true → has_width raw line ≡ true → is_again line before ≡ true → if_said raw cycles before number (Some line) ≡ Err (SetTwice number)
given_again raw cycles before number line m n a w g = step_is raw cycles before number line true true true true true m n a w g

pub good : (raw : Raw) (cycles : ℕ) (before : List LineData) (number : ℕ) (line : LineData) → may_follow cycles before line ≡ true → has_name raw line ≡ true → has_address raw line ≡ true → has_width raw line ≡ true → is_again line before ≡ false → if_said raw cycles before number (Some line) ≡ Ok line
good raw cycles before number line m n a w g = step_is raw cycles before number line true true true true false m n a w g

-- ---- one line more

abbrev lines_before : Reader → List LineData
lines_before r = reverse r.stimulus.lines

added_before : (old new : StimulusData) (line : LineData) → Adds old new line → reverse new.lines ≡ line ∷ reverse old.lines
added_before old new line h = ap (λ (s : StimulusData). reverse s.lines) h ∙ reverse_push old.lines line

-- a set with one more name
abbrev pub AddsName : NameSet → NameSet → List ℕ → Type 0
AddsName old new name = (other : List ℕ) → has new other ≡ (bytes_eq name other || has old other)

abbrev pub AddsRow : RowSet → RowSet → List ℕ → ℕ → Type 0
AddsRow old new name address = (other : List ℕ) (place : ℕ) → has_row new other place ≡ (bytes_eq name other && address == place || has_row old other place)

pub read_reg : (old new : Reader) (name : List ℕ) (w : TaintedWord) → IsReading old → Adds old.stimulus new.stimulus (reg_line name w) → new.opened ≡ old.opened → AddsName old.registers new.registers name → new.rows ≡ old.rows → new.released ≡ old.released → new.ports ≡ old.ports → IsReading new
read_reg old new name w h added opened registers rows released ports =
    let rev = added_before old.stimulus new.stimulus (reg_line name w) added in
    record {
      open_group = ap open_cycle rev ∙ h.open_group ∙ sym opened;
      given_registers = λ q. ap (list_any (is_reg_of q)) rev ∙ ap (λ b. bytes_eq name q || b) (h.given_registers q) ∙ sym (registers q);
      given_rows = λ q a. ap (list_any (is_mem_of q a)) rev ∙ h.given_rows q a ∙ ap (λ (s : RowSet). has_row s q a) (sym rows);
      given_names = λ q. ap (list_any (is_release_of q)) rev ∙ h.given_names q ∙ ap (λ (s : NameSet). has s q) (sym released);
      given_ports = λ q. ap (is_set_among q) rev ∙ h.given_ports q ∙ ap (λ (s : NameSet). has s q) (sym ports);
    }

pub read_mem : (old new : Reader) (name : List ℕ) (address : ℕ) (w : TaintedWord) → IsReading old → Adds old.stimulus new.stimulus (mem_line name address w) → new.opened ≡ old.opened → new.registers ≡ old.registers → AddsRow old.rows new.rows name address → new.released ≡ old.released → new.ports ≡ old.ports → IsReading new
read_mem old new name address w h added opened registers rows released ports =
    let rev = added_before old.stimulus new.stimulus (mem_line name address w) added in
    record {
      open_group = ap open_cycle rev ∙ h.open_group ∙ sym opened;
      given_registers = λ q. ap (list_any (is_reg_of q)) rev ∙ h.given_registers q ∙ ap (λ (s : NameSet). has s q) (sym registers);
      given_rows = λ q a. ap (list_any (is_mem_of q a)) rev ∙ ap (λ b. (bytes_eq name q && address == a) || b) (h.given_rows q a) ∙ sym (rows q a);
      given_names = λ q. ap (list_any (is_release_of q)) rev ∙ h.given_names q ∙ ap (λ (s : NameSet). has s q) (sym released);
      given_ports = λ q. ap (is_set_among q) rev ∙ h.given_ports q ∙ ap (λ (s : NameSet). has s q) (sym ports);
    }

pub read_release : (old new : Reader) (name : List ℕ) (bits : List _) → IsReading old → Adds old.stimulus new.stimulus (release_line name bits) → new.opened ≡ old.opened → new.registers ≡ old.registers → new.rows ≡ old.rows → AddsName old.released new.released name → new.ports ≡ old.ports → IsReading new
read_release old new name bits h added opened registers rows released ports =
    let rev = added_before old.stimulus new.stimulus (release_line name bits) added in
    record {
      open_group = ap open_cycle rev ∙ h.open_group ∙ sym opened;
      given_registers = λ q. ap (list_any (is_reg_of q)) rev ∙ h.given_registers q ∙ ap (λ (s : NameSet). has s q) (sym registers);
      given_rows = λ q a. ap (list_any (is_mem_of q a)) rev ∙ h.given_rows q a ∙ ap (λ (s : RowSet). has_row s q a) (sym rows);
      given_names = λ q. ap (list_any (is_release_of q)) rev ∙ ap (λ b. bytes_eq name q || b) (h.given_names q) ∙ sym (released q);
      given_ports = λ q. ap (is_set_among q) rev ∙ h.given_ports q ∙ ap (λ (s : NameSet). has s q) (sym ports);
    }

pub read_cycle : (old new : Reader) (k : ℕ) → IsReading old → Adds old.stimulus new.stimulus (cycle_line k) → new.opened ≡ Some k → new.registers ≡ old.registers → new.rows ≡ old.rows → new.released ≡ old.released → ((q : List ℕ) → has new.ports q ≡ false) → IsReading new
read_cycle old new k h added opened registers rows released ports =
    let rev = added_before old.stimulus new.stimulus (cycle_line k) added in
    record {
      open_group = ap open_cycle rev ∙ sym opened;
      given_registers = λ q. ap (list_any (is_reg_of q)) rev ∙ h.given_registers q ∙ ap (λ (s : NameSet). has s q) (sym registers);
      given_rows = λ q a. ap (list_any (is_mem_of q a)) rev ∙ h.given_rows q a ∙ ap (λ (s : RowSet). has_row s q a) (sym rows);
      given_names = λ q. ap (list_any (is_release_of q)) rev ∙ h.given_names q ∙ ap (λ (s : NameSet). has s q) (sym released);
      given_ports = λ q. ap (is_set_among q) rev ∙ sym (ports q);
    }

pub read_set : (old new : Reader) (name : List ℕ) (w : TaintedWord) → IsReading old → Adds old.stimulus new.stimulus (set_line name w) → new.opened ≡ old.opened → new.registers ≡ old.registers → new.rows ≡ old.rows → new.released ≡ old.released → AddsName old.ports new.ports name → IsReading new
read_set old new name w h added opened registers rows released ports =
    let rev = added_before old.stimulus new.stimulus (set_line name w) added in
    record {
      open_group = ap open_cycle rev ∙ h.open_group ∙ sym opened;
      given_registers = λ q. ap (list_any (is_reg_of q)) rev ∙ h.given_registers q ∙ ap (λ (s : NameSet). has s q) (sym registers);
      given_rows = λ q a. ap (list_any (is_mem_of q a)) rev ∙ h.given_rows q a ∙ ap (λ (s : RowSet). has_row s q a) (sym rows);
      given_names = λ q. ap (list_any (is_release_of q)) rev ∙ h.given_names q ∙ ap (λ (s : NameSet). has s q) (sym released);
      given_ports = λ q. ap (is_set_among q) rev ∙ ap (λ b. bytes_eq name q || b) (h.given_ports q) ∙ sym (ports q);
    }

-- ---- the tests that the code makes

pub may_start : (r : Reader) (b s : Bool) → IsReading r → b ≡ is_some r.opened → b ≡ s → not (is_some (open_cycle (reverse r.stimulus.lines))) ≡ not s
may_start r b s h is so = ap (λ o. not (is_some o)) h.open_group ∙ ap not (sym is ∙ so)

pub may_set : (r : Reader) (b s : Bool) → IsReading r → is_some r.opened ≡ not b → b ≡ s → is_some (open_cycle (reverse r.stimulus.lines)) ≡ not s
may_set r b s h is so = ap is_some h.open_group ∙ is ∙ ap not so

pub fits_width : (w : TaintedWord) (n m : ℕ) (b s : Bool) → b ≡ is_of_width w n → n ≡ m → b ≡ s → is_of_width w m ≡ s
fits_width w n m b s is same so = ap (is_of_width w) (sym same) ∙ sym is ∙ so

-- a word that fits is one
pub word_written : (name : List ℕ) (w v : TaintedWord) (n : ℕ) → (nat_lt 0 (length name) && nat_lt 0 (length w.value)) ≡ true → is_of_width w n ≡ true → v ≡ w → (nat_lt 0 (length name) && is_word v) ≡ true
word_written name w v n sayable fits same =
    let value = (Decides-eqb (length w.value) n).0 (first_true (length w.value == n) (length w.taint == n) fits) in
    let taint = (Decides-eqb (length w.taint) n).0 (second_true (length w.value == n) (length w.taint == n) fits) in
    both_true (nat_lt 0 (length name)) (is_word v) (first_true (nat_lt 0 (length name)) (nat_lt 0 (length w.value)) sayable)
    (ap is_word same ∙ both_true (nat_lt 0 (length w.value)) (length w.taint == length w.value) (second_true (nat_lt 0 (length name)) (nat_lt 0 (length w.value)) sayable)
    ((Decides-eqb (length w.taint) (length w.value)).1 (taint ∙ sym value)))

pub value_fits : (w : TaintedWord) (n : ℕ) → is_of_width w n ≡ true → n ≤ 65536 → length w.value ≤ 65536
value_fits w n fits low = (let e = (Decides-eqb (length w.value) n).0 (first_true (length w.value == n) (length w.taint == n) fits) in omega arith)

pub taint_fits : (w : TaintedWord) (n : ℕ) → is_of_width w n ≡ true → n ≤ 65536 → length w.taint ≤ 65536
taint_fits w n fits low = (let e = (Decides-eqb (length w.taint) n).0 (second_true (length w.value == n) (length w.taint == n) fits) in omega arith)

-- a name is new where it isn't given
pub is_given : (b s : Bool) (given : Bool) → b ≡ not given → b ≡ s → given ≡ not s
is_given b true true is so = absurd (false≢true (sym is ∙ so))
is_given b true false is so = refl
is_given b false true is so = refl
is_given b false false is so = absurd (false≢true (sym so ∙ is))

-- ---- released wires

same_source : (a : Src) → is_same_source a a ≡ true
same_source (Bit b) = (Decides-eqb b b).1 refl
same_source Zero = refl
same_source One = refl

same_sources : (us : List Src) → are_same_sources us us ≡ true
same_sources [] = refl
same_sources (u ∷ us) = both_true (is_same_source u u) (are_same_sources us us) (same_source u) (same_sources us)

pub wire_found : (w : Wire) (f : FoundOf) → a_wire w ≡ f → is_found_as (found_bits f) f ≡ true
wire_found w f h = ap (λ g. is_found_as (found_bits g) g) (sym h) ∙ same_sources w.bits

-- ---- a line by its form

-- what is said is the line of the form
pub said_is : (raw : Raw) (said : Said) (given : Option LineData) (found : Option Said) → option_map (said_line raw) found ≡ given → found ≡ Some said → given ≡ Some (said_line raw said)
said_is raw said given found h is = sym h ∙ ap (option_map (said_line raw)) is

pub not_said : (raw : Raw) (given : Option LineData) (found : Option Said) → option_map (said_line raw) found ≡ given → found ≡ None → given ≡ None
not_said raw given found h is = sym h ∙ ap (option_map (said_line raw)) is

pub reads_said : (raw : Raw) (head : Head) (before : List LineData) (number : ℕ) (words : List (List ℕ)) (said : Said) → line_said raw head.version words ≡ Some (said_line raw said) → if_said raw head.cycles before number (Some (said_line raw said)) ≡ line_read raw head before (record { number = number; words = words })
unfolding line_read
reads_said raw head before number words said h = ap (if_said raw head.cycles before number) (sym h)

pub reads_none : (raw : Raw) (head : Head) (before : List LineData) (number : ℕ) (words : List (List ℕ)) → line_said raw head.version words ≡ None → line_read raw head before (record { number = number; words = words }) ≡ Err (BadLine number)
unfolding line_read
reads_none raw head before number words h = ap (if_said raw head.cycles before number) h

pub takes_same : (old new : StimulusData) (a b : Result LineData StimFault) → a ≡ b → Takes old new a → Takes old new b
takes_same old new a b e t = record { line = t.line; read = sym e ∙ t.read; added = t.added }

pub first_same : (a b : Result LineData StimFault) (e : StimFault) → a ≡ b → IsFirst a e → IsFirst b e
first_same a b (BadLine n) same h = sym same ∙ h
first_same a b (NoSuchName n) same h = sym same ∙ h
first_same a b (WrongWidth n) same h = sym same ∙ h
first_same a b NoCycles same h = sym same ∙ h
first_same a b TooManyCycles same h = sym same ∙ h
first_same a b (SetTwice n) same h = sym same ∙ h
first_same a b (BadAddress n) same h = sym same ∙ h
first_same a b Memory same h = tt

-- ---- what is said can be written

binary_some : (text : List ℕ) → is_binary text ≡ true → nat_lt 0 (length (word_of_text text)) ≡ true
binary_some text h = ap (nat_lt 0) (length-map (reverse text) (λ b. b == 49) ∙ length-reverse text) ∙ first_true (nat_lt 0 (length text)) _ h

abbrev HasBit : Option TaintedWord → Type 0
HasBit None = Unit {0}
HasBit (Some w) = nat_lt 0 (length w.value) ≡ true

one_word : (value : List ℕ) (b : Bool) → is_binary value ≡ b → HasBit (if b then Some (record { value = word_of_text value; taint = zeros (length value) }) else None)
one_word value true h = binary_some value h
one_word value false h = tt

two_words : (value taint : List ℕ) (b : Bool) → (is_binary value && is_binary taint) ≡ b → HasBit (if b then Some (record { value = word_of_text value; taint = word_of_text taint }) else None)
two_words value taint true h = binary_some value (first_true (is_binary value) (is_binary taint) h)
two_words value taint false h = tt

word_has_bit : (words : List (List ℕ)) → HasBit (tainted_said words)
word_has_bit [] = tt
word_has_bit (value ∷ []) = one_word value (is_binary value) refl
word_has_bit (value ∷ taint ∷ []) = two_words value taint (is_binary value && is_binary taint) refl
word_has_bit (value ∷ taint ∷ more ∷ rest) = tt

abbrev HasName : Option (List ℕ) → Type 0
HasName None = Unit {0}
HasName (Some name) = nat_lt 0 (length name) ≡ true

byte_before : (byte : Option ℕ) (name : Option (List ℕ)) → HasName (with_byte byte name)
byte_before None name = tt
byte_before (Some b) None = tt
byte_before (Some b) (Some bs) = grind (arith, nat_tests)

name_by : (b c d : ℕ) (rest : List ℕ) (s : Bool) → HasName (if s then with_byte (byte_of_digits c d) (decoded rest) else with_byte (plain_byte b) (decoded (c ∷ d ∷ rest)))
name_by b c d rest true = byte_before (byte_of_digits c d) (decoded rest)
name_by b c d rest false = byte_before (plain_byte b) (decoded (c ∷ d ∷ rest))

name_has_byte : (word : List ℕ) → nat_lt 0 (length word) ≡ true → HasName (decoded word)
name_has_byte [] h = absurd (false≢true h)
name_has_byte (b ∷ []) h = byte_before (plain_byte b) (Some [])
name_has_byte (b ∷ c ∷ []) h = byte_before (plain_byte b) (with_byte (plain_byte c) (Some []))
name_has_byte (b ∷ c ∷ d ∷ rest) h = name_by b c d rest (b == 37)

abbrev CanSay : Option LineData → Type 0
CanSay None = Unit {0}
CanSay (Some line) = is_sayable line ≡ true

reg_can : (name : Option (List ℕ)) (w : Option TaintedWord) → HasName name → HasBit w → CanSay (option_and_then (λ n. option_map (λ v. reg_line n v) w) name)
reg_can None w h k = tt
reg_can (Some n) None h k = tt
reg_can (Some n) (Some v) h k = both_true (nat_lt 0 (length n)) (nat_lt 0 (length v.value)) h k

mem_can : (name : Option (List ℕ)) (address : Option ℕ) (w : Option TaintedWord) → HasName name → HasBit w → CanSay (option_and_then (λ n. option_and_then (λ a. option_map (λ v. mem_line n a v) w) address) name)
mem_can None address w h k = tt
mem_can (Some n) None w h k = tt
mem_can (Some n) (Some a) None h k = tt
mem_can (Some n) (Some a) (Some v) h k = both_true (nat_lt 0 (length n)) (nat_lt 0 (length v.value)) h k

set_can : (name : Option (List ℕ)) (w : Option TaintedWord) → HasName name → HasBit w → CanSay (option_and_then (λ n. option_map (λ v. set_line n v) w) name)
set_can None w h k = tt
set_can (Some n) None h k = tt
set_can (Some n) (Some v) h k = both_true (nat_lt 0 (length n)) (nat_lt 0 (length v.value)) h k

release_can : (raw : Raw) (name : Option (List ℕ)) → HasName name → CanSay (option_map (λ n. release_line n (found_bits (found_of raw n))) name)
release_can raw None h = tt
release_can raw (Some n) h = h

cycle_can : (number : Option ℕ) → CanSay (option_map (λ j. cycle_line j) number)
cycle_can None = tt
cycle_can (Some j) = refl

abbrev are_words : List (List ℕ) → Bool
are_words words = list_all (λ word. nat_lt 0 (length word)) words

first_word_of : (word : List ℕ) (words : List (List ℕ)) → are_words (word ∷ words) ≡ true → nat_lt 0 (length word) ≡ true
first_word_of word words h = first_true (nat_lt 0 (length word)) (are_words words) h

reg_says : (words : List (List ℕ)) → are_words words ≡ true → CanSay (reg_said words)
reg_says [] h = tt
reg_says (cell ∷ rest) h = reg_can (decoded cell) (tainted_said rest) (name_has_byte cell (first_word_of cell rest h)) (word_has_bit rest)

mem_says : (words : List (List ℕ)) → are_words words ≡ true → CanSay (mem_said words)
mem_says [] h = tt
mem_says (cell ∷ []) h = tt
mem_says (cell ∷ address ∷ rest) h = mem_can (decoded cell) (number_read address) (tainted_said rest) (name_has_byte cell (first_word_of cell (address ∷ rest) h)) (word_has_bit rest)

set_says : (words : List (List ℕ)) → are_words words ≡ true → CanSay (set_said words)
set_says [] h = tt
set_says (port ∷ rest) h = set_can (decoded port) (tainted_said rest) (name_has_byte port (first_word_of port rest h)) (word_has_bit rest)

release_says : (raw : Raw) (words : List (List ℕ)) → are_words words ≡ true → CanSay (release_said raw words)
release_says raw [] h = tt
release_says raw (name ∷ []) h = release_can raw (decoded name) (name_has_byte name (first_word_of name [] h))
release_says raw (name ∷ more ∷ rest) h = tt

cycle_says : (words : List (List ℕ)) → CanSay (cycle_said words)
cycle_says [] = tt
cycle_says (k ∷ []) = cycle_can (number_read k)
cycle_says (k ∷ more ∷ rest) = tt

verb_says : (raw : Raw) (rest : List (List ℕ)) (r m s k t : Bool) → are_words rest ≡ true → CanSay (if r then reg_said rest else if m then mem_said rest else if s then release_said raw rest else if k then cycle_said rest else if t then set_said rest else None)
verb_says raw rest true m s k t h = reg_says rest h
verb_says raw rest false true s k t h = mem_says rest h
verb_says raw rest false false true k t h = release_says raw rest h
verb_says raw rest false false false true t h = cycle_says rest
verb_says raw rest false false false false true h = set_says rest h
verb_says raw rest false false false false false h = tt

line_by : (raw : Raw) (version : ℕ) (verb : List ℕ) (rest : List (List ℕ)) (s : Bool) → are_words rest ≡ true → CanSay (if s then said_by raw version verb rest else None)
line_by raw version verb rest true h = verb_says raw rest (bytes_eq verb (codes "reg")) (bytes_eq verb (codes "mem")) (bytes_eq verb (codes "release") && version == 2) (bytes_eq verb (codes "@")) (bytes_eq verb (codes "set")) h
line_by raw version verb rest false h = tt

line_says : (raw : Raw) (version : ℕ) (words : List (List ℕ)) → are_words words ≡ true → CanSay (line_said raw version words)
unfolding line_said
line_says raw version [] h = tt
line_says raw version (verb ∷ rest) h = line_by raw version verb rest (list_all (list_all is_visible) (verb ∷ rest)) (second_true (nat_lt 0 (length verb)) (are_words rest) h)

pub can_say : (raw : Raw) (version : ℕ) (text : List ℕ) (line : LineData) → line_said raw version (words_of text) ≡ Some line → is_sayable line ≡ true
can_say raw version text line h = subst CanSay h (line_says raw version (words_of text) (texts.are_words text))

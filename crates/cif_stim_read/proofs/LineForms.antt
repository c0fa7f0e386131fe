-- Forms of lines, word by word.
use Rattle.std.specs.Prelude.{ℕ, ◌≡◌, ◌==◌, nat_eq, Bool, true, false, ◌&&◌, List, [], ◌∷◌, length, reverse, bytes_eq, codes, Option, Some, None, option_map, option_and_then, refl}
use Rattle.std.proofs.Common.{sym, ap, ◌∙◌, if◌then◌else◌}
use Rattle.std.specs.List.{list_all}
use Rattle.std.proofs.lemmas.List.{length-map, length-reverse}
use Rattle.cif_defs.specs.WordText.{word_of_text}
use Rattle.cif_defs.specs.Stimulus.{TaintedWord, StimLine as LineData, reg_line, mem_line, set_line}
use Rattle.cif_defs.specs.Text.{number_read, decoded, is_visible}
use Rattle.cif_defs.specs.declared.raw_module.Raw.{Raw}
use Rattle.cif_defs.proofs.WordLaws.{length-word}
use Rattle.cif_stimulus.specs.Fitting.{is_of_width}
use Rattle.cif_stim_read.specs.Forms.{word_seen, taint_seen}
use Rattle.cif_stimulus.specs.StimulusText.{tainted_said, reg_said, mem_said, set_said, release_said, cycle_said, said_by, line_said}
use Rattle.cif_stim_read.specs.declared.form.WordText.{WordText}

-- ---- widths

and_self : (b : Bool) → b ≡ (b && b)
and_self true = refl
and_self false = refl

text_length : (text : List ℕ) → length (word_of_text text) ≡ length text
text_length text = length-map (reverse text) (λ b. b == 49) ∙ length-reverse text

pub width_none : (w : WordText) (n : ℕ) → w.taint ≡ None → nat_eq (length w.value.now) n ≡ is_of_width (word_seen w) n
width_none w n none =
    and_self (length w.value.now == n)
    ∙ ap (λ k. k == n && length w.value.now == n) (sym (text_length w.value.now))
    ∙ ap (λ k. length (word_of_text w.value.now) == n && k == n) (sym (length-word (length w.value.now) (λ i. false)))
    ∙ ap (λ t. length (word_of_text w.value.now) == n && length (taint_seen (length w.value.now) t) == n) (sym none)

-- ---- forms that lack a part

no_word : {A : Type 0} (f : A → TaintedWord → LineData) (name : Option A) → option_and_then (λ x. option_map (λ w. f x w) None) name ≡ None
no_word f None = refl
no_word f (Some x) = refl

seen_none : (w : Option WordText) (rest : List (List ℕ)) → option_map word_seen w ≡ tainted_said rest → w ≡ None → tainted_said rest ≡ None
seen_none w rest seen none = sym seen ∙ ap (option_map word_seen) none

pub reg_none : (words : List (List ℕ)) (cell : List ℕ) (rest : List (List ℕ)) (w : Option WordText) → words ≡ cell ∷ rest → option_map word_seen w ≡ tainted_said rest → w ≡ None → None ≡ reg_said words
reg_none words cell rest w is seen none = sym
    (ap reg_said is
    ∙ ap (λ (t : Option TaintedWord). option_and_then (λ name. option_map (λ v. reg_line name v) t) (decoded cell)) (seen_none w rest seen none)
    ∙ no_word reg_line (decoded cell))

pub set_none : (words : List (List ℕ)) (port : List ℕ) (rest : List (List ℕ)) (w : Option WordText) → words ≡ port ∷ rest → option_map word_seen w ≡ tainted_said rest → w ≡ None → None ≡ set_said words
set_none words port rest w is seen none = sym
    (ap set_said is
    ∙ ap (λ (t : Option TaintedWord). option_and_then (λ name. option_map (λ v. set_line name v) t) (decoded port)) (seen_none w rest seen none)
    ∙ no_word set_line (decoded port))

no_mem_word : (name : Option (List ℕ)) (address : Option ℕ) → option_and_then (λ x. option_and_then (λ a. option_map (λ w. mem_line x a w) None) address) name ≡ None
no_mem_word None address = refl
no_mem_word (Some x) None = refl
no_mem_word (Some x) (Some a) = refl

pub mem_none : (words : List (List ℕ)) (cell address : List ℕ) (rest more : List (List ℕ)) (w : Option WordText) → words ≡ cell ∷ more → more ≡ address ∷ rest → option_map word_seen w ≡ tainted_said rest → w ≡ None → None ≡ mem_said words
mem_none words cell address rest more w is next seen none = sym
    (ap mem_said (is ∙ ap (λ (ws : List (List ℕ)). cell ∷ ws) next)
    ∙ ap (λ (t : Option TaintedWord). option_and_then (λ name. option_and_then (λ a. option_map (λ v. mem_line name a v) t) (number_read address)) (decoded cell)) (seen_none w rest seen none)
    ∙ no_mem_word (decoded cell) (number_read address))

no_address : (w : Option TaintedWord) (name : Option (List ℕ)) → option_and_then (λ x. option_and_then (λ a. option_map (λ v. mem_line x a v) w) None) name ≡ None
no_address w None = refl
no_address w (Some x) = refl

pub mem_bad_address : (words : List (List ℕ)) (cell address : List ℕ) (rest more : List (List ℕ)) (number : Option ℕ) → words ≡ cell ∷ more → more ≡ address ∷ rest → number ≡ number_read address → number ≡ None → None ≡ mem_said words
mem_bad_address words cell address rest more number is next read none = sym
    (ap mem_said (is ∙ ap (λ (ws : List (List ℕ)). cell ∷ ws) next)
    ∙ ap (λ (n : Option ℕ). option_and_then (λ name. option_and_then (λ a. option_map (λ v. mem_line name a v) (tainted_said rest)) n) (decoded cell)) (sym read ∙ none)
    ∙ no_address (tainted_said rest) (decoded cell))

-- ---- verbs

abbrev is_reg : List ℕ → Bool
is_reg verb = bytes_eq verb (codes "reg")

abbrev is_mem : List ℕ → Bool
is_mem verb = bytes_eq verb (codes "mem")

abbrev is_release : List ℕ → Bool
is_release verb = bytes_eq verb (codes "release")

abbrev is_cycle : List ℕ → Bool
is_cycle verb = bytes_eq verb (codes "@")

abbrev is_set : List ℕ → Bool
is_set verb = bytes_eq verb (codes "set")

pub by_reg : (raw : Raw) (version : ℕ) (verb : List ℕ) (rest : List (List ℕ)) → is_reg verb ≡ true → reg_said rest ≡ said_by raw version verb rest
by_reg raw version verb rest r = sym (ap (λ b. if b then reg_said rest else if is_mem verb then mem_said rest else if is_release verb && version == 2 then release_said raw rest else if is_cycle verb then cycle_said rest else if is_set verb then set_said rest else None) r)

after_reg : (raw : Raw) (version : ℕ) (verb : List ℕ) (rest : List (List ℕ)) → is_reg verb ≡ false → (if is_mem verb then mem_said rest else if is_release verb && version == 2 then release_said raw rest else if is_cycle verb then cycle_said rest else if is_set verb then set_said rest else None) ≡ said_by raw version verb rest
after_reg raw version verb rest r = sym (ap (λ b. if b then reg_said rest else if is_mem verb then mem_said rest else if is_release verb && version == 2 then release_said raw rest else if is_cycle verb then cycle_said rest else if is_set verb then set_said rest else None) r)

pub by_mem : (raw : Raw) (version : ℕ) (verb : List ℕ) (rest : List (List ℕ)) → is_reg verb ≡ false → is_mem verb ≡ true → mem_said rest ≡ said_by raw version verb rest
by_mem raw version verb rest r m =
    sym (ap (λ b. if b then mem_said rest else if is_release verb && version == 2 then release_said raw rest else if is_cycle verb then cycle_said rest else if is_set verb then set_said rest else None) m) ∙ after_reg raw version verb rest r

after_mem : (raw : Raw) (version : ℕ) (verb : List ℕ) (rest : List (List ℕ)) → is_reg verb ≡ false → is_mem verb ≡ false → (if is_release verb && version == 2 then release_said raw rest else if is_cycle verb then cycle_said rest else if is_set verb then set_said rest else None) ≡ said_by raw version verb rest
after_mem raw version verb rest r m =
    sym (ap (λ b. if b then mem_said rest else if is_release verb && version == 2 then release_said raw rest else if is_cycle verb then cycle_said rest else if is_set verb then set_said rest else None) m) ∙ after_reg raw version verb rest r

pub by_release : (raw : Raw) (version : ℕ) (verb : List ℕ) (rest : List (List ℕ)) → is_reg verb ≡ false → is_mem verb ≡ false → (is_release verb && version == 2) ≡ true → release_said raw rest ≡ said_by raw version verb rest
by_release raw version verb rest r m s =
    sym (ap (λ b. if b then release_said raw rest else if is_cycle verb then cycle_said rest else if is_set verb then set_said rest else None) s) ∙ after_mem raw version verb rest r m

after_release : (raw : Raw) (version : ℕ) (verb : List ℕ) (rest : List (List ℕ)) → is_reg verb ≡ false → is_mem verb ≡ false → (is_release verb && version == 2) ≡ false → (if is_cycle verb then cycle_said rest else if is_set verb then set_said rest else None) ≡ said_by raw version verb rest
after_release raw version verb rest r m s =
    sym (ap (λ b. if b then release_said raw rest else if is_cycle verb then cycle_said rest else if is_set verb then set_said rest else None) s) ∙ after_mem raw version verb rest r m

pub by_cycle : (raw : Raw) (version : ℕ) (verb : List ℕ) (rest : List (List ℕ)) → is_reg verb ≡ false → is_mem verb ≡ false → (is_release verb && version == 2) ≡ false → is_cycle verb ≡ true → cycle_said rest ≡ said_by raw version verb rest
by_cycle raw version verb rest r m s k =
    sym (ap (λ b. if b then cycle_said rest else if is_set verb then set_said rest else None) k) ∙ after_release raw version verb rest r m s

after_cycle : (raw : Raw) (version : ℕ) (verb : List ℕ) (rest : List (List ℕ)) → is_reg verb ≡ false → is_mem verb ≡ false → (is_release verb && version == 2) ≡ false → is_cycle verb ≡ false → (if is_set verb then set_said rest else None) ≡ said_by raw version verb rest
after_cycle raw version verb rest r m s k =
    sym (ap (λ b. if b then cycle_said rest else if is_set verb then set_said rest else None) k) ∙ after_release raw version verb rest r m s

pub by_set : (raw : Raw) (version : ℕ) (verb : List ℕ) (rest : List (List ℕ)) → is_reg verb ≡ false → is_mem verb ≡ false → (is_release verb && version == 2) ≡ false → is_cycle verb ≡ false → is_set verb ≡ true → set_said rest ≡ said_by raw version verb rest
by_set raw version verb rest r m s k t =
    sym (ap (λ b. if b then set_said rest else None) t) ∙ after_cycle raw version verb rest r m s k

pub by_none : (raw : Raw) (version : ℕ) (verb : List ℕ) (rest : List (List ℕ)) → is_reg verb ≡ false → is_mem verb ≡ false → (is_release verb && version == 2) ≡ false → is_cycle verb ≡ false → is_set verb ≡ false → None ≡ said_by raw version verb rest
by_none raw version verb rest r m s k t =
    sym (ap (λ b. if b then set_said rest else None) t) ∙ after_cycle raw version verb rest r m s k

-- ---- whole lines

pub not_visible : (raw : Raw) (version : ℕ) (words : List (List ℕ)) → list_all (list_all is_visible) words ≡ false → None ≡ line_said raw version words
unfolding line_said
not_visible raw version [] h = refl
not_visible raw version (verb ∷ rest) h = sym (ap (λ b. if b then said_by raw version verb rest else None) h)

pub no_verb : (raw : Raw) (version : ℕ) (words : List (List ℕ)) → words ≡ [] → None ≡ line_said raw version words
unfolding line_said
no_verb raw version words h = sym (ap (line_said raw version) h)

pub by_verb : (raw : Raw) (version : ℕ) (words : List (List ℕ)) (verb : List ℕ) (rest : List (List ℕ)) → words ≡ verb ∷ rest → list_all (list_all is_visible) words ≡ true → said_by raw version verb rest ≡ line_said raw version words
unfolding line_said
by_verb raw version words verb rest is h =
    sym (ap (λ b. if b then said_by raw version verb rest else None) (ap (list_all (list_all is_visible)) (sym is) ∙ h)) ∙ sym (ap (line_said raw version) is)

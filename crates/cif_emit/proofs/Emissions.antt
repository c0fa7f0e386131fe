-- Emissions, one after another: what is emitted first, and then what is made of it.
use Rattle.std.specs.Prelude.{ℕ, zero, suc, ◌+◌, ◌≤◌, ◌≡◌, Bool, true, false, ◌&&◌, ◌||◌, ◌==◌, List, [], ◌∷◌, ◌++◌, map, length, refl}
use Rattle.std.specs.List.{AllByRecursion, flat_map, list_all, range_with_len}
use Rattle.std.proofs.Common.{arith, ap, sym, ◌∙◌, length-append, append_assoc, append-nil, subst}
use Rattle.std.proofs.lemmas.List.{map-append}
use Rattle.std.proofs.lemmas.List.Concat.{flat_map-append}
use Rattle.std.proofs.lemmas.List.Folds.{list_any-append, list_all-append}
use Rattle.cif_defs.specs.Words.{Word}
use Rattle.cif_defs.specs.Order.{cell_names}
use Rattle.cif_defs.specs.RawModule.{operand_bits, output_bits, nets_in, is_net}
use Rattle.cif_defs.specs.declared.raw_module.RawBit.{RawBit}
use Rattle.cif_defs.specs.declared.raw_module.RawBit.TheVariants.{Net, Zero, One, X, Z}
use Rattle.cif_defs.specs.declared.raw_module.RawCell.{RawCell}
use Rattle.cif_checks.specs.Checks.{has_number}
use Rattle.cif_raw_runs.specs.Assigned.{raw_word, IsMet}
use Rattle.cif_emit.specs.Makers.{Maker, RiseBetween, name_in}
use Rattle.cif_emit.specs.Emitted.{drives, is_known, are_known, ReadInOrder, IsPlainCell, AreMade, IsEmitted}
use Rattle.cif_emit.specs.Handed.{IsAdded}
use Rattle.cif_emit.proofs.Numbers.{rise_append, same_number}
use Rattle.cif_emit.proofs.NewNets.{length-nets}

-- ---- lists of cells

all_append : {A : Type 0} (P : A → Type 0) (xs ys : List A) → AllByRecursion P xs → AllByRecursion P ys → AllByRecursion P (xs ++ ys)
all_append P [] ys h k = k
all_append P (x ∷ xs) ys h k = (h.0, all_append P xs ys h.1 k)

all_first : {A : Type 0} (P : A → Type 0) (xs ys : List A) → AllByRecursion P (xs ++ ys) → AllByRecursion P xs
all_first P [] ys h = tt
all_first P (x ∷ xs) ys h = (h.0, all_first P xs ys h.1)

all_second : {A : Type 0} (P : A → Type 0) (xs ys : List A) → AllByRecursion P (xs ++ ys) → AllByRecursion P ys
all_second P [] ys h = h
all_second P (x ∷ xs) ys h = all_second P xs ys h.1

-- ---- known numbers

both_true : (a b : Bool) → a ≡ true → b ≡ true → (a && b) ≡ true
both_true a b h k = ap (λ x. x && b) h ∙ k

first_true : (a b : Bool) → (a && b) ≡ true → a ≡ true
first_true true b h = refl
first_true false b h = h

second_true : (a b : Bool) → (a && b) ≡ true → b ≡ true
second_true true b h = h
second_true false b h = absurd (cc)

or_true : (a b : Bool) → a ≡ true → (a || b) ≡ true
or_true a b h = ap (λ x. x || b) h

true_after : (a b : Bool) → b ≡ true → (a || b) ≡ true
true_after true b h = refl
true_after false b h = h

pub known_append : (known : List ℕ) (xs ys : List RawBit) → are_known known xs ≡ true → are_known known ys ≡ true → are_known known (xs ++ ys) ≡ true
known_append known xs ys h k = list_all-append (is_known known) xs ys ∙ both_true _ _ h k

pub known_first : (known : List ℕ) (xs ys : List RawBit) → are_known known (xs ++ ys) ≡ true → are_known known xs ≡ true
known_first known xs ys h = first_true _ _ (sym (list_all-append (is_known known) xs ys) ∙ h)

pub known_second : (known : List ℕ) (xs ys : List RawBit) → are_known known (xs ++ ys) ≡ true → are_known known ys ≡ true
known_second known xs ys h = second_true (are_known known xs) _ (sym (list_all-append (is_known known) xs ys) ∙ h)

bit_more_known : (known more : List ℕ) (b : RawBit) → is_known known b ≡ true → is_known (known ++ more) b ≡ true
bit_more_known known more (Net x) h = list_any-append _ known more ∙ or_true _ _ h
bit_more_known known more Zero h = refl
bit_more_known known more One h = refl
bit_more_known known more X h = h
bit_more_known known more Z h = h

pub more_known : (known more : List ℕ) (bits : List RawBit) → are_known known bits ≡ true → are_known (known ++ more) bits ≡ true
more_known known more [] h = refl
more_known known more (b ∷ bits) h = both_true _ _ (bit_more_known known more b (first_true _ _ h)) (more_known known more bits (second_true (is_known known b) _ h))

-- nets are known where their numbers are
pub own_known : (known : List ℕ) (bits : List RawBit) → list_all is_net bits ≡ true → are_known (known ++ nets_in bits) bits ≡ true
own_known known [] h = refl
own_known known (Net x ∷ bits) h =
    let self : has_number x (x ∷ nets_in bits) ≡ true = or_true (x == x) _ (same_number x) in
    let here : has_number x (known ++ x ∷ nets_in bits) ≡ true = list_any-append _ known (x ∷ nets_in bits) ∙ true_after (has_number x known) _ self in
    let rest : are_known ((known ++ x ∷ []) ++ nets_in bits) bits ≡ true = own_known (known ++ x ∷ []) bits h in
    both_true _ _ here (rw append_assoc at rest)
own_known known (Zero ∷ bits) h = absurd (cc)
own_known known (One ∷ bits) h = absurd (cc)
own_known known (X ∷ bits) h = absurd (cc)
own_known known (Z ∷ bits) h = absurd (cc)

-- ---- cells that are read in order

read_append : (known : List ℕ) (xs ys : List RawCell) → ReadInOrder known xs → ReadInOrder (known ++ flat_map drives xs) ys → ReadInOrder known (xs ++ ys)
read_append known [] ys h k = subst (λ (l : List ℕ). ReadInOrder l ys) (append-nil known) k
read_append known (x ∷ xs) ys h k = (h.0, read_append (known ++ drives x) xs ys h.1 (subst (λ (l : List ℕ). ReadInOrder l ys) (sym (append_assoc known (drives x) (flat_map drives xs))) k))

-- ---- cells that were made

range_append : (a m n : ℕ) → range_with_len a (m + n) ≡ range_with_len a m ++ range_with_len (a + m) n
range_append a zero n = let e : zero + n ≡ n = omega arith in let f : a + zero ≡ a = omega arith in rw (e, f) refl
range_append a (suc m) n =
    let e : suc m + n ≡ suc (m + n) = omega arith in
    let f : a + suc m ≡ (a + 1) + m = omega arith in
    rw (e, f) (ap (λ (l : List ℕ). a ∷ l) (range_append (a + 1) m n))

names_append : (name : ℕ → List ℕ) (xs ys : List RawCell) (a : ℕ) → cell_names xs ≡ map name (range_with_len a (length xs)) → cell_names ys ≡ map name (range_with_len (a + length xs) (length ys))
    → cell_names (xs ++ ys) ≡ map name (range_with_len a (length (xs ++ ys)))
names_append name xs ys a h k =
    let both : cell_names xs ++ cell_names ys ≡ map name (range_with_len a (length xs)) ++ map name (range_with_len (a + length xs) (length ys)) = (cc) in
    map-append (λ (c : RawCell). c.name) xs ys ∙ both ∙ sym (ap (λ n. map name (range_with_len a n)) (length-append xs ys) ∙ ap (map name) (range_append a (length xs) (length ys)) ∙ map-append name _ _)

pub made_append : (l m n : Maker) (xs ys : List RawCell) → AreMade l m xs → AreMade m n ys → AreMade l n (xs ++ ys)
made_append l m n xs ys h k =
    let driven : flat_map drives (xs ++ ys) ≡ flat_map drives xs ++ flat_map drives ys = flat_map-append drives xs ys in
    let second_names : cell_names ys ≡ map (name_in l) (range_with_len (l.made + length xs) (length ys)) = (let same : m.cell ≡ l.cell = h.cell in let made : m.made ≡ l.made + length xs = h.made in rw (same, made) at k.names) in
    let second : RiseBetween l.used m.next n.next (flat_map drives ys) = rw h.used at k.numbers in
    record {
      names = names_append (name_in l) xs ys l.made h.names second_names;
      made = (let a : m.made ≡ l.made + length xs = h.made in let b : n.made ≡ m.made + length ys = k.made in omega (arith, length-append xs ys));
      numbers = rw driven (rise_append l.used l.next m.next n.next _ _ h.numbers second);
      handed = (let a : m.handed ≡ l.handed + length (flat_map drives xs) = h.handed in let b : n.handed ≡ m.handed + length (flat_map drives ys) = k.handed in
          let c : length (flat_map drives (xs ++ ys)) ≡ length (flat_map drives xs) + length (flat_map drives ys) = ap length driven ∙ length-append _ _ in omega arith);
      plain = all_append IsPlainCell xs ys h.plain k.plain;
      used = k.used ∙ h.used;
      cell = k.cell ∙ h.cell;
    }

made_none : (m : Maker) → AreMade m m []
made_none m = record { names = refl; made = omega arith; numbers = omega arith; handed = omega arith; plain = tt; used = refl; cell = refl }

-- ---- emissions

-- what is emitted of one cell
pub cell_emitted : (m n : Maker) (old new : List RawCell) (c : RawCell) (width : ℕ) (inputs y : List RawBit) (Meant : (ℕ → Bool) → Word → Type 0)
    → IsAdded m n old new c width y → c.name ≡ name_in m m.made → IsPlainCell c → output_bits c ≡ y
    → ((known : List ℕ) → are_known known inputs ≡ true → are_known known (operand_bits c) ≡ true)
    → ((v : ℕ → Bool) → IsMet v c → Meant v (raw_word v y))
    → IsEmitted m n old new inputs Meant 1 width y
cell_emitted m n old new c width inputs y Meant added name plain output reads means =
    let driven : flat_map drives (c ∷ []) ≡ nets_in y = append-nil (drives c) ∙ ap nets_in output in
    let count : length (flat_map drives (c ∷ [])) ≡ width = ap length driven ∙ length-nets y added.nets.nets ∙ added.nets.as_wide in
    record {
      cells = c ∷ [];
      appended = added.appended;
      made = record {
        names = ap (λ (l : List ℕ). l ∷ []) name;
        made = added.made;
        numbers = rw driven added.nets.numbers;
        handed = (let e : n.handed ≡ m.handed + width = added.nets.handed in omega arith);
        plain = (plain, tt);
        used = added.kept.used;
        cell = added.kept.cell;
      };
      reads = λ known h. (reads known h, tt);
      shows = λ known h. rw driven (own_known known y added.nets.nets);
      means = λ v h. means v h.0;
      cost_limit = omega arith;
      as_wide = added.nets.as_wide;
    }

-- nothing is emitted
pub nothing_emitted : (m : Maker) (old : List RawCell) (inputs bits : List RawBit) (Meant : (ℕ → Bool) → Word → Type 0) (width : ℕ)
    → ((known : List ℕ) → are_known known inputs ≡ true → are_known known bits ≡ true)
    → ((v : ℕ → Bool) → Meant v (raw_word v bits))
    → length bits ≡ width
    → IsEmitted m m old old inputs Meant 0 width bits
nothing_emitted m old inputs bits Meant width shows means wide = record {
  cells = [];
  appended = sym (append-nil old);
  made = made_none m;
  reads = λ known h. tt;
  shows = λ known h. more_known known [] bits (shows known h);
  means = λ v h. means v;
  cost_limit = omega arith;
  as_wide = wide;
}

-- what is emitted first, then what is emitted from it and from the inputs; bits are those that both give, as far as they are wanted
pub then_emitted : {l m n : Maker} {one two three : List RawCell} {inputs then_inputs first second : List RawBit} {j k first_width second_width : ℕ}
    (First Second Meant : (ℕ → Bool) → Word → Type 0) (bits : List RawBit) (width : ℕ)
    → IsEmitted l m one two inputs First j first_width first
    → IsEmitted m n two three then_inputs Second k second_width second
    → ((known : List ℕ) → are_known known inputs ≡ true → are_known known first ≡ true → are_known known then_inputs ≡ true)
    → ((known : List ℕ) → are_known known first ≡ true → are_known known second ≡ true → are_known known bits ≡ true)
    → ((v : ℕ → Bool) → First v (raw_word v first) → Second v (raw_word v second) → Meant v (raw_word v bits))
    → length bits ≡ width
    → IsEmitted l n one three inputs Meant (j + k) width bits
then_emitted {l} {m} {n} {one} {two} {three} {inputs} {then_inputs} {first} {second} First Second Meant bits width a b between shown means wide =
    let driven : flat_map drives (a.cells ++ b.cells) ≡ flat_map drives a.cells ++ flat_map drives b.cells = flat_map-append drives a.cells b.cells in
    let next = λ (known : List ℕ) (h : are_known known inputs ≡ true). between (known ++ flat_map drives a.cells) (more_known known (flat_map drives a.cells) inputs h) (a.shows known h) in
    record {
      cells = a.cells ++ b.cells;
      appended = b.appended ∙ ap (λ (x : List RawCell). x ++ b.cells) a.appended ∙ append_assoc one a.cells b.cells;
      made = made_append l m n a.cells b.cells a.made b.made;
      reads = λ known h. read_append known a.cells b.cells (a.reads known h) (b.reads (known ++ flat_map drives a.cells) (next known h));
      shows = λ known h.
          let second_known : are_known (known ++ flat_map drives a.cells ++ flat_map drives b.cells) second ≡ true = b.shows (known ++ flat_map drives a.cells) (next known h) in
          let first_known : are_known (known ++ flat_map drives a.cells ++ flat_map drives b.cells) first ≡ true = more_known (known ++ flat_map drives a.cells) (flat_map drives b.cells) first (a.shows known h) in
          let all : are_known (known ++ flat_map drives a.cells ++ flat_map drives b.cells) bits ≡ true = shown _ first_known second_known in
          rw (driven, ← append_assoc known (flat_map drives a.cells) (flat_map drives b.cells)) all;
      means = λ v h. means v (a.means v (all_first (IsMet v) a.cells b.cells h)) (b.means v (all_second (IsMet v) a.cells b.cells h));
      cost_limit = (let x : length a.cells ≤ _ = a.cost_limit in let y : length b.cells ≤ _ = b.cost_limit in omega (arith, length-append a.cells b.cells));
      as_wide = wide;
    }

-- the same emission, of which less is said
pub weaker : {m n : Maker} {old new : List RawCell} {bits : List RawBit} (inputs more : List RawBit) (Means Meant : (ℕ → Bool) → Word → Type 0) (j k width wanted : ℕ)
    → IsEmitted m n old new inputs Means j width bits
    → ((known : List ℕ) → are_known known more ≡ true → are_known known inputs ≡ true)
    → ((v : ℕ → Bool) (w : Word) → Means v w → Meant v w)
    → j ≤ k → width ≡ wanted
    → IsEmitted m n old new more Meant k wanted bits
weaker inputs more Means Meant j k width wanted a known means cost wide = record {
  cells = a.cells;
  appended = a.appended;
  made = a.made;
  reads = λ l h. a.reads l (known l h);
  shows = λ l h. a.shows l (known l h);
  means = λ v h. means v _ (a.means v h);
  cost_limit = (let c : length a.cells ≤ j = a.cost_limit in omega arith);
  as_wide = a.as_wide ∙ wide;
}

-- other bits made of those that were emitted
pub shown_emitted : {m n : Maker} {old new : List RawCell} {inputs bits : List RawBit} {j width : ℕ} (Means Meant : (ℕ → Bool) → Word → Type 0) (zs : List RawBit) (wanted : ℕ)
    → IsEmitted m n old new inputs Means j width bits
    → ((known : List ℕ) → are_known known bits ≡ true → are_known known zs ≡ true)
    → ((v : ℕ → Bool) → Means v (raw_word v bits) → Meant v (raw_word v zs))
    → length zs ≡ wanted
    → IsEmitted m n old new inputs Meant j wanted zs
shown_emitted Means Meant zs wanted a shown means wide = record {
  cells = a.cells;
  appended = a.appended;
  made = a.made;
  reads = a.reads;
  shows = λ l h. shown _ (a.shows l h);
  means = λ v h. means v (a.means v h);
  cost_limit = a.cost_limit;
  as_wide = wide;
}

-- the same cells after others
pub moved_emitted : {m n : Maker} {start here old new : List RawCell} {inputs bits : List RawBit} {j width : ℕ} (Means : (ℕ → Bool) → Word → Type 0) → start ≡ [] → new ≡ old ++ here
    → IsEmitted m n start here inputs Means j width bits → IsEmitted m n old new inputs Means j width bits
moved_emitted {old = old} Means none all a = record {
  cells = a.cells;
  appended = all ∙ ap (λ (l : List RawCell). old ++ l) (a.appended ∙ ap (λ (l : List RawCell). l ++ a.cells) none);
  made = a.made;
  reads = a.reads;
  shows = a.shows;
  means = a.means;
  cost_limit = a.cost_limit;
  as_wide = a.as_wide;
}

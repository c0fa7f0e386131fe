-- Words beside their exact taints: parts of them, and choices between them.
use Rattle.std.specs.Prelude.{ℕ, suc, ◌^◌, ◌+◌, ◌<◌, ◌≡◌, nat_lt, Bool, true, false, ◌&&◌, ◌||◌, List, [], ◌∷◌, length, map, refl, if◌then◌else◌}
use Rattle.std.proofs.Common.{arith, sym, ap, subst, ◌∙◌}
use Rattle.cif_defs.specs.Words.{Word, bit, digit, operand, word, word_of, xor}
use Rattle.cif_defs.specs.Completions.{can_differ}
use Rattle.cif_defs.proofs.Numbers.{word-same}
use Rattle.rule_select.specs.Choices.{choice_taint}
use Rattle.rule_select.proofs.ChoiceTaints.{Ignores}
use Rattle.rule_select.proofs.DifferTests.{never_differs, same_differ}
use Rattle.rule_select.proofs.PlacedParts.{moved_bit}
use Rattle.rule_select.proofs.TreeLaws.{IsTree, Tree, chosen_bit, chosen_differs, differs, tree_bit, tree_ignores}
use Rattle.word_numbers.proofs.Digits.{digits-word_of}
use Rattle.word_choices.specs.declared.shadowed.Shadowed.{Shadowed}
use Rattle.word_choices.specs.Shadows.{IsChosen, IsWithin, exact_word}

-- ---- a choice

taint_by : (n : ℕ) (zero one : Shadowed) (s t : Bool) (either : ℕ) → word_of n either ≡ word n (λ i. (digit zero.taint i || digit one.taint i) || xor (digit zero.value i) (digit one.value i))
    → word_of n (if t then either else (if s then one.taint else zero.taint)) ≡ word n (λ i. choice_taint (digit zero.value i) (digit zero.taint i) (digit one.value i) (digit one.taint i) s t)
taint_by n zero one s true either e = e
taint_by n zero one true false either e = refl
taint_by n zero one false false either e = refl

below_by : (m : ℕ) (s : Bool) (x y : ℕ) → x < m → y < m → (if s then y else x) < m
below_by m true x y h l = l
below_by m false x y h l = h

pub chosen_by : (zero one : Shadowed) (s t : Bool) (plain either value taint : ℕ) → plain ≡ (if s then one.taint else zero.taint)
    → ((n : ℕ) → word_of n either ≡ word n (λ i. (digit zero.taint i || digit one.taint i) || xor (digit zero.value i) (digit one.value i)))
    → ((n : ℕ) → IsWithin n zero → IsWithin n one → either < 2 ^ n)
    → value ≡ (if s then one.value else zero.value) → taint ≡ (if t then either else plain) → IsChosen zero one s t (record { value = value; taint = taint })
chosen_by zero one s t plain either value taint p w f v e = record {
  value = v;
  taint = λ n. ap (word_of n) (e ∙ ap (λ x. if t then either else x) p) ∙ taint_by n zero one s t either (w n);
  within = λ n z o. record {
    value = subst (λ x. x < 2 ^ n) (sym v) (below_by (2 ^ n) s zero.value one.value z.value o.value);
    taint = subst (λ x. x < 2 ^ n) (sym (e ∙ ap (λ x. if t then either else x) p)) (below_by (2 ^ n) t _ either (below_by (2 ^ n) s zero.taint one.taint z.taint o.taint) (f n z o));
  };
}

-- ---- bits and which of them can differ

-- p holds n bits f, and which of them can differ
pub record IsShadow (n : ℕ) (f : ℕ → List Word → Bool) (vs ts : List Word) (p : Shadowed) : Type 0 where
  pub value : word_of n p.value ≡ word n (λ i. f i vs)
  pub taint : word_of n p.taint ≡ word n (differs f vs ts)
  pub within : IsWithin n p

picked_word : (n : ℕ) (s : Bool) (x y : ℕ) (f g : ℕ → Bool) → word_of n x ≡ word n f → word_of n y ≡ word n g → word_of n (if s then y else x) ≡ word n (λ i. if s then g i else f i)
picked_word n true x y f g e d = d
picked_word n false x y f g e d = e

same_choice : (x a tx ta y b ty tb s t : Bool) → x ≡ a → tx ≡ ta → y ≡ b → ty ≡ tb → choice_taint x tx y ty s t ≡ choice_taint a ta b tb s t
same_choice x a tx ta y b ty tb s t p q r u =
    ap (λ z. choice_taint z tx y ty s t) p ∙ ap (λ z. choice_taint a z y ty s t) q ∙ ap (λ z. choice_taint a ta z ty s t) r ∙ ap (λ z. choice_taint a ta b z s t) u

pub choice_shadow : (n q k : ℕ) (f g : ℕ → List Word → Bool) (vs ts : List Word) (zero one p : Shadowed) → q < length vs → k < length (operand vs q) → ((i : ℕ) → Ignores (f i) q k) → ((i : ℕ) → Ignores (g i) q k)
    → IsShadow n f vs ts zero → IsShadow n g vs ts one → IsChosen zero one (bit (operand vs q) k) (bit (operand ts q) k) p → IsShadow n (chosen_bit q k f g) vs ts p
choice_shadow n q k f g vs ts zero one p there inside a b z o c = record {
  value = ap (word_of n) c.value ∙ picked_word n (bit (operand vs q) k) zero.value one.value (λ i. f i vs) (λ i. g i vs) z.value o.value;
  taint = c.taint n ∙ word-same n _ _ (λ i h.
      same_choice _ _ _ _ _ _ _ _ (bit (operand vs q) k) (bit (operand ts q) k) (digits-word_of n zero.value (λ i. f i vs) z.value i h) (digits-word_of n zero.taint (differs f vs ts) z.taint i h)
      (digits-word_of n one.value (λ i. g i vs) o.value i h) (digits-word_of n one.taint (differs g vs ts) o.taint i h)
      ∙ sym (chosen_differs q k f g vs ts there inside a b i));
  within = c.within n z.within o.within;
}

pub chosen_as : (zero one : Shadowed) (s t b d : Bool) (p : Shadowed) → s ≡ b → t ≡ d → IsChosen zero one s t p → IsChosen zero one b d p
chosen_as zero one s t b d p e q c = subst (λ x. IsChosen zero one b x p) q (subst (λ x. IsChosen zero one x t p) e c)

-- ---- a stage of a tree

pub stage_shadow : (t : Tree) (m j : ℕ) (vs ts : List Word) (zero one p : Shadowed) → IsTree t m vs ts → j < m
    → IsShadow (t.wide (suc j)) (t.steps j false (tree_bit t j)) vs ts zero → IsShadow (t.wide (suc j)) (t.steps j true (tree_bit t j)) vs ts one
    → IsChosen zero one (bit (operand vs t.select) (t.order j)) (bit (operand ts t.select) (t.order j)) p → IsShadow (t.wide (suc j)) (tree_bit t (suc j)) vs ts p
stage_shadow t m j vs ts zero one p g h z o c =
    let before : (i : ℕ) → Ignores (tree_bit t j i) t.select (t.order j) = tree_ignores t m vs ts g j (t.order j) (omega arith) (λ i l q. g.apart j i l h (sym q)) in
    choice_shadow (t.wide (suc j)) t.select (t.order j) (t.steps j false (tree_bit t j)) (t.steps j true (tree_bit t j)) vs ts zero one p g.there (g.within j h)
    ((g.part j false h).ignores (tree_bit t j) (t.order j) before) ((g.part j true h).ignores (tree_bit t j) (t.order j) before) z o c

pub next_shadow : (t : Tree) (n j : ℕ) (vs ts : List Word) (r : Shadowed) → IsShadow n (tree_bit t (suc j)) vs ts r → IsShadow n (tree_bit t (j + 1)) vs ts r
next_shadow t n j vs ts r g = let e : suc j ≡ j + 1 = omega arith in subst (λ k. IsShadow n (tree_bit t k) vs ts r) e g

-- ---- a part of a word, by places

pub differs_by : (b : Bool) (f : List Word → Bool) (vs ts : List Word) → can_differ (λ us. b && f us) vs ts ≡ (b && can_differ f vs ts)
differs_by true f vs ts = refl
differs_by false f vs ts = never_differs (λ us. false) vs ts false (λ us c. refl)

-- move takes from a word of w bits the n bits at some places
pub part_shadow : (w n : ℕ) (place : ℕ → ℕ) (move : Word → Word) (f : ℕ → List Word → Bool) (vs ts : List Word) (p r : Shadowed) → ((g : ℕ → Bool) → move (word w g) ≡ word n (λ i. nat_lt (place i) w && g (place i)))
    → IsShadow w f vs ts p → word_of n r.value ≡ move (word_of w p.value) → word_of n r.taint ≡ move (word_of w p.taint) → IsWithin n r → IsShadow n (moved_bit w place f) vs ts r
part_shadow w n place move f vs ts p r law g ev et inside = record {
  value = ev ∙ ap move g.value ∙ law (λ i. f i vs);
  taint = et ∙ ap move g.taint ∙ law (differs f vs ts) ∙ word-same n _ _ (λ i h. sym (differs_by (nat_lt (place i) w) (f (place i)) vs ts));
  within = inside;
}

-- ---- the end

-- completions are as long as the values
pub same_lengths : (vs us : List Word) → length us ≡ length vs → ((p : ℕ) → length (operand us p) ≡ length (operand vs p)) → map length us ≡ map length vs
same_lengths [] [] e h = refl
same_lengths [] (u ∷ us) e h = absurd (let q : suc (length us) ≡ 0 = e in omega arith)
same_lengths (v ∷ vs) [] e h = absurd (let q : 0 ≡ suc (length vs) = e in omega arith)
same_lengths (v ∷ vs) (u ∷ us) e h =
    let rest : map length us ≡ map length vs = same_lengths vs us (let q : suc (length us) ≡ suc (length vs) = e in omega arith) (λ p. h (suc p)) in
    ap (λ k. k ∷ map length us) (h 0) ∙ ap (λ (ks : List ℕ). length v ∷ ks) rest

pub exact_by : (n x : ℕ) (f : ℕ → List Word → Bool) (row : List Word → Word) (vs ts : List Word) → word_of n x ≡ word n (differs f vs ts)
    → ((us : List Word) → map length us ≡ map length vs → (i : ℕ) → i < n → bit (row us) i ≡ f i us) → word_of n x ≡ exact_word n row vs ts
exact_by n x f row vs ts e same = e ∙ word-same n _ _ (λ i h. same_differ (f i) (λ us. bit (row us) i) vs ts (λ us d. sym (same us (same_lengths vs us d.as_many (λ q. (d.each q).as_long)) i h)))

-- rows that give the same
pub same_exact : (n x : ℕ) (f g : List Word → Word) (vs ts : List Word) → ((us : List Word) → f us ≡ g us) → word_of n x ≡ exact_word n f vs ts → word_of n x ≡ exact_word n g vs ts
same_exact n x f g vs ts e h = h ∙ word-same n _ _ (λ i l. same_differ (λ us. bit (f us) i) (λ us. bit (g us) i) vs ts (λ us c. ap (λ (w : Word). bit w i) (e us)))

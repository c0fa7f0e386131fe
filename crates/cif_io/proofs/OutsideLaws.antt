-- How what a sink took adds up over several writes, and what the answers of a fetch say of a told file.
use Rattle.std.specs.Prelude.{ℕ, ◌+◌, ◌-◌, ◌<◌, ◌≤◌, ◌≡◌, ◌⊎◌, List, [], ◌∷◌, ◌++◌, length, take, drop, Option, Some, None, refl}
use Rattle.std.proofs.Common.{arith, ap, sym, inl, inr, ◌∙◌, append_assoc, append-nil, take-append-drop}
use Rattle.std.proofs.Math.Seq.{take-add}
use Rattle.std.proofs.lemmas.List.{take_all, take_rest}
use Rattle.cif_io.specs.Outside.{Files, file_named, file_limit, Rose, IsTold, IsToldLong, taken_with, Appends, AppendsPrefix}

pub taken_with-nothing : (old : Option (List ℕ)) → taken_with old [] ≡ old
unfolding taken_with
taken_with-nothing None = refl
taken_with-nothing (Some taken) = ap (λ (x : List ℕ). Some x) (append-nil taken)

pub taken_with-more : (old : Option (List ℕ)) (a b : List ℕ) → taken_with (taken_with old a) b ≡ taken_with old (a ++ b)
unfolding taken_with
taken_with-more None a b = refl
taken_with-more (Some taken) a b = ap (λ (x : List ℕ). Some x) (append_assoc taken a b)

-- a sink that stays as it was took no bytes
pub Appends-nothing : {old new : Option (List ℕ)} → new ≡ old → Appends old new []
Appends-nothing {old} h = record { taken = h ∙ sym (taken_with-nothing old) }

-- a sink that took no bytes stays as it was
pub Appends-empty : {old new : Option (List ℕ)} → Appends old new [] → new ≡ old
Appends-empty {old} h = h.taken ∙ taken_with-nothing old

-- the same bytes, written in another way
pub Appends-same : {old new : Option (List ℕ)} {a b : List ℕ} → Appends old new a → a ≡ b → Appends old new b
Appends-same {old} h e = record { taken = h.taken ∙ ap (taken_with old) e }

-- one piece after another
pub Appends-join : {old mid new : Option (List ℕ)} {a b : List ℕ} → Appends old mid a → Appends mid new b → Appends old new (a ++ b)
Appends-join {old} {mid} {new} {a} {b} h k = record { taken = let p = h.taken in let q = k.taken in cc (taken_with-more old a b) }

-- all of the bytes are a beginning of them
pub AppendsPrefix-whole : {old new : Option (List ℕ)} {a : List ℕ} → Appends old new a → AppendsPrefix old new a
AppendsPrefix-whole {a = a} h = record { first = a; rest = []; is_beginning = append-nil a; appended = h }

-- what was appended is a beginning of any text that goes on after it
pub AppendsPrefix-front : {old new : Option (List ℕ)} {a : List ℕ} (b : List ℕ) → Appends old new a → AppendsPrefix old new (a ++ b)
AppendsPrefix-front {a = a} b h = record { first = a; rest = b; is_beginning = refl; appended = h }

-- nothing is a beginning of any text
pub AppendsPrefix-nothing : {old new : Option (List ℕ)} (text : List ℕ) → new ≡ old → AppendsPrefix old new text
AppendsPrefix-nothing text h = record { first = []; rest = text; is_beginning = refl; appended = Appends-nothing h }

front_of_nothing : (a b : List ℕ) → a ++ b ≡ [] → a ≡ []
front_of_nothing [] b e = refl
front_of_nothing (x ∷ a) b e = absurd (cc)

-- a beginning of no bytes is nothing
pub AppendsPrefix-empty : {old new : Option (List ℕ)} → AppendsPrefix old new [] → new ≡ old
AppendsPrefix-empty {old} {new} k = Appends-empty (Appends-same k.appended (front_of_nothing k.first k.rest k.is_beginning))

pub AppendsPrefix-same : {old new : Option (List ℕ)} {a b : List ℕ} → AppendsPrefix old new a → a ≡ b → AppendsPrefix old new b
AppendsPrefix-same k e = record { first = k.first; rest = k.rest; is_beginning = k.is_beginning ∙ e; appended = k.appended }

-- a whole piece, and then a beginning of the next
pub AppendsPrefix-join : {old mid new : Option (List ℕ)} {a b : List ℕ} → Appends old mid a → AppendsPrefix mid new b → AppendsPrefix old new (a ++ b)
AppendsPrefix-join {a = a} h k = record {
  first = a ++ k.first;
  rest = k.rest;
  is_beginning = append_assoc a k.first k.rest ∙ ap (λ (x : List ℕ). a ++ x) k.is_beginning;
  appended = Appends-join h k.appended;
}

-- a beginning of a piece is a beginning of the piece and more
pub AppendsPrefix-more : {old new : Option (List ℕ)} {a : List ℕ} (b : List ℕ) → AppendsPrefix old new a → AppendsPrefix old new (a ++ b)
AppendsPrefix-more b k = record {
  first = k.first;
  rest = k.rest ++ b;
  is_beginning = sym (append_assoc k.first k.rest b) ∙ ap (λ (x : List ℕ). x ++ b) k.is_beginning;
  appended = k.appended;
}

-- the first bytes of what is left, after the first d bytes
pub Appends-rest : {old mid new : Option (List ℕ)} (bytes : List ℕ) (d n : ℕ) → Appends old mid (take d bytes) → Appends mid new (take n (take (length bytes - d) (drop d bytes))) → Appends old new (take (d + n) bytes)
Appends-rest bytes d n h k =
    Appends-same (Appends-join h k) (ap (λ (x : List ℕ). take d bytes ++ take n x) (take_rest bytes d) ∙ sym (take-add d n bytes))

pub Appends-all : {old new : Option (List ℕ)} (bytes : List ℕ) (d : ℕ) → Appends old new (take d bytes) → length bytes ≤ d → Appends old new bytes
Appends-all bytes d h l = Appends-same h (take_all d bytes l)

-- the first d bytes were taken, and then nothing
pub AppendsPrefix-stop : {old mid new : Option (List ℕ)} (bytes : List ℕ) (d : ℕ) → Appends old mid (take d bytes) → new ≡ mid → AppendsPrefix old new bytes
AppendsPrefix-stop bytes d h e = record {
  first = take d bytes;
  rest = drop d bytes;
  is_beginning = take-append-drop d bytes;
  appended = record { taken = e ∙ h.taken };
}

-- a rise within a time is a rise over it
pub Rose-within : (first old new last : ℕ) → first ≤ old → Rose old new → old ≤ new → new ≤ last → Rose first last
Rose-within first old new last a rose b c = elim rose [
  | inl rises ↦ inl (omega arith)
  | inr full ↦ (let stays : (new ≡ last) ⊎ (new < last) = search arith in
      elim stays [ inl same ↦ inr (sym same ∙ full) | inr more ↦ inl (omega arith) ])
]

-- a file of no more than the limit is not too long
pub not_long : (files : Files) (name bytes : List ℕ) → IsTold (Some files) name bytes → length bytes ≤ file_limit → IsToldLong (Some files) name → ⊥
not_long files name bytes told within long =
    let here = told files refl in
    let there = long files refl in
    let same : bytes ≡ there.0 = cc (there.1) in
    omega (arith, ap length same, there.2)

-- no bytes fit a name that is missing
pub not_missing : (files : Files) (name bytes : List ℕ) → IsTold (Some files) name bytes → file_named files name ≡ None → ⊥
not_missing files name bytes told missing = let here = told files refl in cc

pub not_missing_long : (files : Files) (name : List ℕ) → IsToldLong (Some files) name → file_named files name ≡ None → ⊥
not_missing_long files name long missing = let there = long files refl in cc (there.1)

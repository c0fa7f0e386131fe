-- Words of stored taint: what the steps of the calls on memories make.
use Rattle.std.specs.Prelude.{ℕ, ◌≡◌, ◌==◌, Bool, true, false, not, ◌&&◌, ◌||◌, length, replicate, refl, if◌then◌else◌}
use Rattle.std.proofs.Common.{sym, ap, ◌∙◌}
use Rattle.std.proofs.lemmas.List.{get_or-replicate, length-replicate}
use Rattle.std.proofs.lemmas.List.FromFn.{fill_by_all}
use Rattle.cif_defs.specs.Words.{Word, bit, has_one, number, word}
use Rattle.cif_defs.proofs.Numbers.{word-same}
use Rattle.rule_state.proofs.BitWords.{word_of_bits}
use Rattle.rule_state.specs.MemoryTaints.{may_write, taint_after_port, taint_of_read}
use Rattle.rule_state.specs.declared.memory.WritePort.{WritePort}

pub ones_from_replicate : (n : ℕ) → replicate n true ≡ word n (λ i. true)
ones_from_replicate n = fill_by_all (λ i. true) (replicate n true) n false (length-replicate n true) (λ i h. get_or-replicate n i true false h)

-- ---- reads

either_order : (flag one b : Bool) → (flag || one) ≡ true → true ≡ (one || flag || b)
either_order true true b h = h
either_order true false b h = h
either_order false true b h = h
either_order false false b h = absurd (cc)

neither : (flag one b : Bool) → (flag || one) ≡ false → b ≡ (one || flag || b)
neither true one b h = absurd (cc)
neither false true b h = absurd (cc)
neither false false b h = refl

pub tainted_read : (addr_taint : Word) (flag : Bool) (stored w : Word) → (flag || has_one addr_taint) ≡ true → w ≡ word (length stored) (λ i. true) → w ≡ taint_of_read addr_taint flag stored
tainted_read addr_taint flag stored w h e = e ∙ word-same (length stored) _ _ (λ i l. either_order flag (has_one addr_taint) (bit stored i) h)

pub plain_read : (addr_taint : Word) (flag : Bool) (stored w : Word) → (flag || has_one addr_taint) ≡ false → w ≡ stored → w ≡ taint_of_read addr_taint flag stored
plain_read addr_taint flag stored w h e =
    e ∙ word_of_bits stored (length stored) refl ∙ word-same (length stored) _ _ (λ i l. neither flag (has_one addr_taint) (bit stored i) h)

-- ---- writes

pub written : (n m : ℕ) (port : WritePort) (address : ℕ) (stored w : Word) → (not (has_one port.addr_taint) && number port.addr == address) ≡ true → m ≡ n
    → w ≡ word m (λ i. if may_write port i then bit port.word_taint i || bit port.enable_taint i else bit stored i) → w ≡ taint_after_port n port address stored
written n m port address stored w h e q =
    q ∙ ap (λ k. word k (λ i. if may_write port i then bit port.word_taint i || bit port.enable_taint i else bit stored i)) e
    ∙ ap (λ b. word n (λ i. if b && may_write port i then bit port.word_taint i || bit port.enable_taint i else bit stored i)) (sym h)

pub kept : (n : ℕ) (port : WritePort) (address : ℕ) (stored : Word) → (not (has_one port.addr_taint) && number port.addr == address) ≡ false → length stored ≡ n → stored ≡ taint_after_port n port address stored
kept n port address stored h e =
    word_of_bits stored n e ∙ ap (λ b. word n (λ i. if b && may_write port i then bit port.word_taint i || bit port.enable_taint i else bit stored i)) (sym h)

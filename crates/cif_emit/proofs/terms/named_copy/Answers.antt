use Rattle.std.proofs.Common.{◌≡◌, ℕ, zero, suc, List, [], ◌∷◌, slice_get, get_or, None, ◌∙◌, refl}
use Rattle.cif_defs.specs.declared.raw_module.RawBit.{RawBit}
use Rattle.cif_emit.specs.Scopes.{named_in}
use Rattle.cif_emit.proofs.terms.named_copy.Goals as goal

past_all : (words : List (List RawBit)) (depth : ℕ) → slice_get words depth ≡ None → [] ≡ get_or words depth []
past_all [] depth h = refl
past_all (w ∷ words) zero h = absurd (cc)
past_all (w ∷ words) (suc depth) h = past_all words depth h

pub returns-in-None : goal.returns-in-None
returns-in-None c = c.new.ensures.items ∙ past_all (named_in c.args.scope.now) c.args.depth c.in-None.ensures

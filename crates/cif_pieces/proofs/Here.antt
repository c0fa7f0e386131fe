-- Where each place holds the piece of its part, the cycle of the pieces is that of the first.
use Rattle.std.specs.Prelude.{ℕ, ◌<◌, ◌≡◌, List, Option}
use Rattle.std.proofs.Common.{ap, sym, subst}
use Rattle.cif_seq.specs.Cases.{CaseOf}
use Rattle.cif_pieces.specs.Filled.{AllHere, cycle_by, cycle_here}
use Rattle.cif_pieces.specs.Pieces.{PieceOf}

pub cycle_is : (c : CaseOf) (k parts : ℕ) (slots : List (Option PieceOf)) → 0 < parts → AllHere c k parts slots → cycle_here slots ≡ k
cycle_is c k parts slots some h = ap cycle_by (h 0 some)

pub all_here : (c : CaseOf) (k parts : ℕ) (slots : List (Option PieceOf)) → 0 < parts → AllHere c k parts slots → AllHere c (cycle_here slots) parts slots
all_here c k parts slots some h = subst (λ (x : ℕ). AllHere c x parts slots) (sym (cycle_is c k parts slots some h)) h

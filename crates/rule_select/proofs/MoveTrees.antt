-- Trees whose stages move words.
use Rattle.std.specs.Prelude.{ℕ, suc, ◌+◌, ◌-◌, ◌*◌, ◌^◌, ◌<◌, ◌≤◌, ◌≡◌, ◌≢◌, min, Bool, true, false, List, length, slice_get, Some}
use Rattle.std.proofs.Common.{arith}
use Rattle.cif_defs.specs.Words.{Word, operand}
use Rattle.rule_select.specs.Moves.{order_by, parts_by}
use Rattle.rule_select.specs.declared.moves.Moves.{Moves}
use Rattle.rule_select.specs.declared.moves.Moves.TheVariants.{Left, Rising, Right, Signed, Halves, Blocks, Chain}
use Rattle.rule_select.proofs.ChoiceTaints.{Ignores}
use Rattle.rule_select.proofs.MoveReads.{left_place, left_reads, right_reads, signed_reads}
use Rattle.rule_select.proofs.PlacedParts.{Reads, moved_bit, moved_ignores, reads_all, reads_taint, reads_value}
use Rattle.rule_select.proofs.TreeLaws.{IsFormedTree, IsPart, IsTree, Tree}

-- the places that the part for select bit k at 0 or at 1 reads
unfoldable pub place_by : Moves → ℕ → Bool → ℕ → ℕ
place_by (Left n) k true i = left_place n (2 ^ k) i
place_by (Left n) k false i = i
place_by (Rising n) k true i = i
place_by (Rising n) k false i = left_place n (2 ^ k) i
place_by (Right n) k true i = i + 2 ^ k
place_by (Right n) k false i = i
place_by (Signed n) k true i = min (i + 2 ^ k) (n - 1)
place_by (Signed n) k false i = i
place_by (Halves n) k true i = n * 2 ^ k + i
place_by (Halves n) k false i = i
place_by (Blocks n) k true i = left_place (n * 2 ^ k) (n * 2 ^ k) i
place_by (Blocks n) k false i = i
place_by (Chain n) k one i = i

-- the tree of m stages by the bits of operand q, with widths wide
abbrev pub move_tree : Moves → ℕ → ℕ → (ℕ → ℕ) → (ℕ → List Word → Bool) → Tree
move_tree moves q m wide leaf = record {
  select = q;
  order = order_by moves m;
  parts = parts_by moves;
  steps = λ j one f. moved_bit (wide j) (place_by moves (order_by moves m j) one) f;
  wide = wide;
  leaf = leaf;
}

-- each stage of m reads what its places say, of a select bit of its own
pub record IsMoving (moves : Moves) (m : ℕ) (wide : ℕ → ℕ) : Type 0 where
  pub within : (j : ℕ) → j < m → order_by moves m j < m
  pub apart : (j k : ℕ) → k < j → j < m → order_by moves m j ≢ order_by moves m k
  pub some : (j : ℕ) → j ≤ m → 1 ≤ wide j
  pub few : (j : ℕ) → j ≤ m → wide j ≤ 65536
  pub reads : (j : ℕ) (one tainted : Bool) → j < m → Reads (parts_by moves (order_by moves m j) one tainted) (wide j) (wide (suc j)) (place_by moves (order_by moves m j) one)

moving_part : (moves : Moves) (q m : ℕ) (wide : ℕ → ℕ) (leaf : ℕ → List Word → Bool) (vs ts : List Word) → IsMoving moves m wide → (j : ℕ) (one : Bool) → j < m → IsPart (move_tree moves q m wide leaf) j one vs ts
moving_part moves q m wide leaf vs ts g j one h = record {
  value = λ f x named e. reads_value (parts_by moves (order_by moves m j) one false) (wide j) (wide (suc j)) (place_by moves (order_by moves m j) one) (λ i. f i vs) x vs ts named (g.reads j one false h) e;
  taint = λ f x named e. reads_taint (parts_by moves (order_by moves m j) one true) (wide j) (wide (suc j)) (place_by moves (order_by moves m j) one) f x vs ts named (g.reads j one true h) e;
  ignores = λ f k o i. moved_ignores (wide j) q k (place_by moves (order_by moves m j) one) f o i;
}

pub moving_tree : (moves : Moves) (q m : ℕ) (wide : ℕ → ℕ) (leaf : ℕ → List Word → Bool) (vs ts : List Word) → IsMoving moves m wide → q < length vs → m ≤ length (operand vs q) → ((k i : ℕ) → Ignores (leaf i) q k)
    → IsTree (move_tree moves q m wide leaf) m vs ts
moving_tree moves q m wide leaf vs ts g there e ignores = record {
  there = there;
  within = λ j h. let l : order_by moves m j < m = g.within j h in omega arith;
  apart = g.apart;
  leaf_ignores = ignores;
  part = moving_part moves q m wide leaf vs ts g;
}

pub moving_formed : (moves : Moves) (q m k : ℕ) (wide : ℕ → ℕ) (leaf : ℕ → List Word → Bool) (ws : List ℕ) → IsMoving moves m wide → slice_get ws q ≡ Some k → m ≤ k → k ≤ 65536 → IsFormedTree (move_tree moves q m wide leaf) m ws
moving_formed moves q m k wide leaf ws g e h b = record {
  select_width = k;
  select_there = e;
  select_few = b;
  within = λ j l. let in_order : order_by moves m j < m = g.within j l in omega arith;
  wide_some = g.some;
  wide_few = g.few;
  part = λ j one tainted x named l f. (g.reads j one tainted l).formed x ws named f;
}

-- ---- shifts, whose words keep their width

left_parts : (n k : ℕ) (one tainted : Bool) → 1 ≤ n → n ≤ 65536 → Reads (parts_by (Left n) k one tainted) n n (place_by (Left n) k one)
unfolding parts_by place_by
left_parts n k true tainted a b = left_reads n k a b
left_parts n k false tainted a b = reads_all n

rising_parts : (n k : ℕ) (one tainted : Bool) → 1 ≤ n → n ≤ 65536 → Reads (parts_by (Rising n) k one tainted) n n (place_by (Rising n) k one)
unfolding parts_by place_by
rising_parts n k true tainted a b = reads_all n
rising_parts n k false tainted a b = left_reads n k a b

right_parts : (n k : ℕ) (one tainted : Bool) → 1 ≤ n → n ≤ 65536 → Reads (parts_by (Right n) k one tainted) n n (place_by (Right n) k one)
unfolding parts_by place_by
right_parts n k true tainted a b = right_reads n k a b
right_parts n k false tainted a b = reads_all n

signed_parts : (n k : ℕ) (one tainted : Bool) → 1 ≤ n → n ≤ 65536 → Reads (parts_by (Signed n) k one tainted) n n (place_by (Signed n) k one)
unfolding parts_by place_by
signed_parts n k true tainted a b = signed_reads n k a b
signed_parts n k false tainted a b = reads_all n

pub left_moving : (n m : ℕ) → 1 ≤ n → n ≤ 65536 → IsMoving (Left n) m (λ j. n)
unfolding order_by
left_moving n m a b = record { within = λ j h. h; apart = λ j k l h e. absurd (omega arith); some = λ j h. a; few = λ j h. b; reads = λ j one tainted h. left_parts n j one tainted a b }

pub rising_moving : (n m : ℕ) → 1 ≤ n → n ≤ 65536 → IsMoving (Rising n) m (λ j. n)
unfolding order_by
rising_moving n m a b = record { within = λ j h. h; apart = λ j k l h e. absurd (omega arith); some = λ j h. a; few = λ j h. b; reads = λ j one tainted h. rising_parts n j one tainted a b }

pub right_moving : (n m : ℕ) → 1 ≤ n → n ≤ 65536 → IsMoving (Right n) m (λ j. n)
unfolding order_by
right_moving n m a b = record { within = λ j h. h; apart = λ j k l h e. absurd (omega arith); some = λ j h. a; few = λ j h. b; reads = λ j one tainted h. right_parts n j one tainted a b }

pub signed_moving : (n m : ℕ) → 1 ≤ n → n ≤ 65536 → IsMoving (Signed n) m (λ j. n)
unfolding order_by
signed_moving n m a b = record { within = λ j h. h; apart = λ j k l h e. absurd (omega arith); some = λ j h. a; few = λ j h. b; reads = λ j one tainted h. signed_parts n j one tainted a b }

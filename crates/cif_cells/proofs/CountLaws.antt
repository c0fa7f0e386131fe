-- To be accepted is to be within the counts and to pass all other checks.
use Rattle.std.specs.Prelude.{ℕ, ◌≤◌, ◌≡◌, ◌↔◌, nat_lt, false, length, map, sum, Option, Some, None, refl}
use Rattle.std.proofs.lemmas.Bool.{le-ltb, ltb-false}
use Rattle.cif_defs.specs.RawModule.{net_numbers}
use Rattle.cif_defs.specs.declared.raw_module.Raw.{Raw}
use Rattle.cif_checks.specs.Checks.{◌else_by◌, fault_if, first_fault, build_fault, form_fault, counts_fault, ports_fault, cell_fault, cells_fault, drivers_fault, clocks_fault, reads_fault, inits_fault, memory_bits_fault, memory_size, cell_limit, net_limit, memory_limit, IsAccepted, IsWellFormed, IsWithinCounts}
use Rattle.cif_checks.specs.declared.fault.BuildFault.{BuildFault}
use Rattle.cif_checks.specs.declared.fault.BuildFault.TheVariants.{TooManyBits, TooManyCells}
use Rattle.cif_checks.proofs.FirstFaults.{both_pass}
use Rattle.cif_nets.proofs.Passed.{first_passes, next_passes, test_passes}

-- a count is within its limit exactly where its test finds no fault
within : (limit count : ℕ) (fault : BuildFault) → fault_if (nat_lt limit count) fault ≡ None → count ≤ limit
within limit count fault h = ltb-false limit count (test_passes (nat_lt limit count) fault h)

no_fault_within : (limit count : ℕ) (fault : BuildFault) → count ≤ limit → fault_if (nat_lt limit count) fault ≡ None
no_fault_within limit count fault h = let e : nat_lt limit count ≡ false = le-ltb limit count h in rw e refl

counted : (raw : Raw) → counts_fault raw ≡ None → memory_bits_fault raw ≡ None → IsWithinCounts raw
unfolding counts_fault
counted raw h m = record {
  cells = within cell_limit (length raw.cells) _ (first_passes _ _ h);
  bits = within net_limit (length (net_numbers raw)) _ (next_passes _ _ h);
  memory = within memory_limit (sum (map memory_size raw.cells)) _ m;
}

no_count_fault : (raw : Raw) → IsWithinCounts raw → counts_fault raw ≡ None
unfolding counts_fault
no_count_fault raw h = both_pass _ _ (no_fault_within cell_limit _ (TooManyCells (length raw.cells)) h.cells) (no_fault_within net_limit _ (TooManyBits (length (net_numbers raw))) h.bits)

no_memory_fault : (raw : Raw) → IsWithinCounts raw → memory_bits_fault raw ≡ None
no_memory_fault raw h = no_fault_within memory_limit _ (TooManyBits (sum (map memory_size raw.cells))) h.memory

-- seven passes, each of which passes
seven : (n p c d k r i : Option BuildFault) → (n else_by p else_by c else_by d else_by k else_by r else_by i) ≡ None
    → (n ≡ None) × (p ≡ None) × (c ≡ None) × (d ≡ None) × (k ≡ None) × (r ≡ None) × (i ≡ None)
seven None None None None None None i h = (refl, refl, refl, refl, refl, refl, h)
seven None None None None None (Some f) i h = absurd (cc)
seven None None None None (Some f) r i h = absurd (cc)
seven None None None (Some f) k r i h = absurd (cc)
seven None None (Some f) d k r i h = absurd (cc)
seven None (Some f) c d k r i h = absurd (cc)
seven (Some f) p c d k r i h = absurd (cc)

six : (p c d k r i : Option BuildFault) → (p else_by c else_by d else_by k else_by r else_by i) ≡ None
    → (p ≡ None) × (c ≡ None) × (d ≡ None) × (k ≡ None) × (r ≡ None) × (i ≡ None)
six p c d k r i h = let all = seven None p c d k r i h in (all.1, all.2, all.3, all.4, all.5, all.6)

all_pass : (n p c d k r i : Option BuildFault) → n ≡ None → p ≡ None → c ≡ None → d ≡ None → k ≡ None → r ≡ None → i ≡ None → (n else_by p else_by c else_by d else_by k else_by r else_by i) ≡ None
all_pass n p c d k r i en ep ec ed ek er ei = rw (en, ep, ec, ed, ek, er, ei) refl

apart : (raw : Raw) → IsAccepted raw → IsWithinCounts raw × IsWellFormed raw
unfolding build_fault form_fault cells_fault
apart raw h =
    let all = seven (counts_fault raw) (ports_fault raw) (first_fault cell_fault raw.cells else_by memory_bits_fault raw) (drivers_fault raw) (clocks_fault raw) (reads_fault raw) (inits_fault raw) h in (
      counted raw all.0 (next_passes (first_fault cell_fault raw.cells) (memory_bits_fault raw) all.2),
      all_pass None (ports_fault raw) (first_fault cell_fault raw.cells) (drivers_fault raw) (clocks_fault raw) (reads_fault raw) (inits_fault raw)
          refl all.1 (first_passes (first_fault cell_fault raw.cells) (memory_bits_fault raw) all.2) all.3 all.4 all.5 all.6,
    )

together : (raw : Raw) → IsWithinCounts raw × IsWellFormed raw → IsAccepted raw
unfolding build_fault form_fault cells_fault
together raw h =
    let all = six (ports_fault raw) (first_fault cell_fault raw.cells) (drivers_fault raw) (clocks_fault raw) (reads_fault raw) (inits_fault raw) h.1 in
    all_pass (counts_fault raw) (ports_fault raw) (first_fault cell_fault raw.cells else_by memory_bits_fault raw) (drivers_fault raw) (clocks_fault raw) (reads_fault raw) (inits_fault raw)
    (no_count_fault raw h.0) all.0 (both_pass (first_fault cell_fault raw.cells) (memory_bits_fault raw) all.1 (no_memory_fault raw h.0)) all.2 all.3 all.4 all.5

pub accepted_apart : (raw : Raw) → IsAccepted raw ↔ (IsWithinCounts raw × IsWellFormed raw)
accepted_apart raw = (apart raw, together raw)

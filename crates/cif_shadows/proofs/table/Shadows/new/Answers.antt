use Rattle.std.specs.Prelude.{Bool, false, replicate}
use Rattle.std.proofs.Common.{arith, ap, ◌∙◌, ◌<◌, ℕ, List, get_or, length}
use Rattle.std.proofs.lemmas.List.{length-map, with_items_is}
use Rattle.cif_defs.specs.Accepted.{netlist_of}
use Rattle.cif_defs.specs.declared.raw_module.RawBit.TheVariants.{Zero}
use Rattle.cif_stimulus.specs.Fitting.{is_clock_driver}
use Rattle.cif_shadows.proofs.BarLaws.{begun}
use Rattle.cif_shadows.proofs.table.Shadows.new.Goals as goal

pub bar-requires : goal.bar-requires
bar-requires c b contains =
    let below : b < length (netlist_of c.args.netlist.now).drivers = c.requires.inside b contains in
    omega (arith, ap length c.deref_mut.ensures.value, ap length c.in_ok-barred.ensures, length-map (netlist_of c.args.netlist.now).drivers is_clock_driver)

pub returns : goal.returns
returns c =
    let kept = with_items_is c.in_ok-barred.barred c.bar.new.barred (c.bar.auto.barred ∙ c.deref_mut.ensures.len) in
    begun c.args.netlist.now c.args.released.now c.deref_mut.result.now _ c.raw-accepted.ensures.accepted
    (c.in_ok-bits.ensures.items_if_clones_equal (λ y e. e) ∙ ap (λ (n : ℕ). replicate n Zero) c.bits.ensures.count)
    (c.deref_mut.ensures.value ∙ c.in_ok-barred.ensures)
    (record { each = λ b below. ap (λ (bs : List Bool). get_or bs b false) kept ∙ c.bar.ensures b below })

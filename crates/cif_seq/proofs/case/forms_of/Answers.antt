use Rattle.std.proofs.Common.{◌≡◌, ap, arith, length, [], ◌∷◌}
use Rattle.std.proofs.lemmas.List.{length-append}
use Rattle.cif_defs.specs.Accepted.{netlist_of}
use Rattle.cif_seq.proofs.CaseLaws.{fitted_found}
use Rattle.cif_seq.proofs.Forms.{form_more, no_forms, that_stands}
use Rattle.cif_seq.proofs.case.forms_of.Goals as goal

pub loop-i-init : goal.loop-i-init
loop-i-init c = record {
  forms = no_forms (netlist_of c.args.netlist.now) c.in_ok-forms.forms.items c.in_ok-forms.ensures.items;
  as_many = ap length c.in_ok-forms.ensures.items;
}

pub of-requires : goal.of-requires
of-requires c =
    let same : length c.cells-cells.result.now ≡ length (netlist_of c.args.netlist.now).cells = ap length c.cells-cells.ensures.are in
    fitted_found c.args.netlist.now c.cells-cells.result.now c.loop-i.i c.index-cells-i.result c.cells-cells.ensures.fitted c.cells-cells.ensures.are c.index-cells-i.is (omega (arith, c.loop-i-test.true))

pub loop-i-preserved : goal.loop-i-preserved
loop-i-preserved c = record {
  forms = form_more (netlist_of c.args.netlist.now) c.cells-cells.result.now c.loop-i.forms.items c.push.new.self.items c.loop-i.i c.index-cells-i.result c.of.result c.loop-i.invariant.forms c.loop-i.invariant.as_many c.loop-i-test.true c.cells-cells.ensures.are c.index-cells-i.is (that_stands c.of.result c.index-cells-i.result c.of.ensures) c.in_ok-push.ensures.items;
  as_many =
      let long = length-append c.loop-i.forms.items (c.of.result ∷ []) in
      let made : length c.push.new.self.items ≡ _ = ap length c.in_ok-push.ensures.items in
      omega (arith, c.loop-i.invariant.as_many);
}

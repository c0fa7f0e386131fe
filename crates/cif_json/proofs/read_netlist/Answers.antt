use Rattle.std.proofs.lemmas.Result.{IfOk-weaker, IfErr-weaker}
use Rattle.serde_json.specs.View.{view}
use Rattle.cif_json.proofs.FitModule.{is_writable, has_small_nets}
use Rattle.cif_json.proofs.OrderedData.{read_ordered}
use Rattle.cif_json.proofs.OrderedModule.{in_order}
use Rattle.cif_json.proofs.TextData.{value_is_text}
use Rattle.cif_json.proofs.RefusedBytes.{refused}
use Rattle.cif_json.proofs.read_netlist.Goals as goal

pub returns-clause-err : goal.returns-clause-err
returns-clause-err c = IfErr-weaker _ _ _ (refused c.args.bytes.now (view c.in_ok-value.value) c.in_ok-value.ensures.ok) c.netlist_in.ensures.err

pub returns-clause-ordered : goal.returns-clause-ordered
returns-clause-ordered c = IfOk-weaker _ _ _ (λ raw h. in_order c.args.bytes.now raw (view c.in_ok-value.value, c.in_ok-value.ensures.ok, h)) c.netlist_in.ensures.ok

pub returns-clause-writable : goal.returns-clause-writable
returns-clause-writable c =
    let d = view c.in_ok-value.value in
    let known = c.in_ok-value.ensures.ok in
    IfOk-weaker _ _ _ (λ raw h. is_writable d raw (read_ordered c.args.bytes.now d known.1) (value_is_text c.in_ok-value.value) (in_order c.args.bytes.now raw (d, known, h)) h) c.netlist_in.ensures.ok

pub returns-clause-nets : goal.returns-clause-nets
returns-clause-nets c =
    let d = view c.in_ok-value.value in
    IfOk-weaker _ _ _ (λ raw h. has_small_nets d raw (read_ordered c.args.bytes.now d c.in_ok-value.ensures.ok.1) (value_is_text c.in_ok-value.value) h) c.netlist_in.ensures.ok

use Rattle.cif_built_names.proofs.BuiltOrder.{adds}
use Rattle.cif_built_names.proofs.ClearedPorts.{clears_released}
use Rattle.cif_built_names.proofs.FewCells.{few_cells}
use Rattle.cif_built_names.proofs.WantedNames.{are_free}
use Rattle.cif_built_names.proofs.built_modules_add.Goals as goal

pub returns-clause-adds : goal.returns-clause-adds
returns-clause-adds c = λ n a released order accepted free built. adds n a released order accepted (are_free n free) built

pub returns-clause-few : goal.returns-clause-few
returns-clause-few c = λ n a released order accepted small built. few_cells n a released small built

pub returns-clause-cleared : goal.returns-clause-cleared
returns-clause-cleared c = λ n a released order accepted free built. clears_released n a released order (are_free n free) built

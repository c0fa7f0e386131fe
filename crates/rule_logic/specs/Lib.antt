pub mod LogicFormulas

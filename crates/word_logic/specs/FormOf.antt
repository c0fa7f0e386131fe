-- The form of a cell, from its parameters.
use Rattle.cif_defs.specs.Cells.{Cell, a_signed, both_signed, number_of, width, y_width}
use Rattle.cif_defs.specs.declared.kinds.Kind.{Kind}
use Rattle.cif_defs.specs.declared.kinds.Kind.TheVariants.{And, Or, Xor, Xnor, LogicAnd, LogicOr, Concat, Slice, Fa}
use Rattle.cif_defs.specs.declared.kinds.Param.TheVariants.{AWidth, BWidth, Offset}
use Rattle.word_logic.specs.declared.form.LogicForm.{LogicForm}
use Rattle.word_logic.specs.declared.form.LogicForm.TheVariants.{Unary, Binary, Joined, Sliced, Adder}

abbrev pub unary_form : Cell → LogicForm
unary_form c = Unary c.kind (record { from = number_of c AWidth; to = y_width c; signed = a_signed c })

abbrev pub binary_form : Cell → LogicForm
binary_form c = Binary c.kind (record { from = number_of c AWidth; to = y_width c; signed = both_signed c }) (number_of c BWidth)

abbrev pub concat_form : Cell → LogicForm
concat_form c = Joined (number_of c AWidth) (number_of c BWidth)

abbrev pub slice_form : Cell → LogicForm
slice_form c = Sliced (number_of c AWidth) (number_of c Offset) (y_width c)

abbrev pub fa_form : Cell → LogicForm
fa_form c = Adder (width c)

unfoldable pub logic_form : Kind → Cell → LogicForm
logic_form And c = binary_form c
logic_form Or c = binary_form c
logic_form Xor c = binary_form c
logic_form Xnor c = binary_form c
logic_form LogicAnd c = binary_form c
logic_form LogicOr c = binary_form c
logic_form Concat c = concat_form c
logic_form Slice c = slice_form c
logic_form Fa c = fa_form c
logic_form _ c = unary_form c

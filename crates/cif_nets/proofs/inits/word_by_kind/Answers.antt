use Rattle.std.proofs.Common.{◌≡◌, ◌*◌, ◌∙◌, refl, Bool, Vec, Global, get_or}
use Rattle.std.proofs.lemmas.Result.{IfOk-weaker}
use Rattle.cif_defs.specs.Words.{bit, word}
use Rattle.cif_defs.specs.RawModule.{digits_given}
use Rattle.cif_defs.specs.Accepted.{initial_of, no_bit}
use Rattle.cif_defs.specs.declared.kinds.Param.TheVariants.{Init}
use Rattle.cif_nets.specs.Inits.{start_bit}
use Rattle.cif_nets.proofs.InitLaws.{register_starts, memory_starts, others_start}
use Rattle.cif_nets.proofs.NetLaws.{numbers_increase}
use Rattle.cif_nets.proofs.Kept.{register_is_kept}
use Rattle.cif_nets.proofs.inits.word_by_kind.Goals as goal

pub register_word-requires-clause-rising : goal.register_word-requires-clause-rising
register_word-requires-clause-rising c = numbers_increase c.args.known.now c.args.numbers.now c.requires.numbers

pub returns-in-PlainRegister : goal.returns-in-PlainRegister
returns-in-PlainRegister c =
    IfOk-weaker c.register_word.result
    (λ (v : Vec Bool Global). v.items ≡ word c.number-width.result (λ i. start_bit c.args.numbers.now c.args.inits.now (get_or c.kept_bits.result.now i no_bit)))
    (λ (v : Vec Bool Global). v.items ≡ initial_of c.args.numbers.now c.args.known.now.names c.args.cell.now)
    (λ v h. register_starts c.args.known.now c.args.numbers.now c.args.inits.now c.args.cell.now c.args.kind c.role.result c.kept_bits.result.now c.number-width.result v.items
    c.requires.numbers c.requires.inits c.requires.known c.requires.one c.in-PlainRegister.is c.role.ensures (c.kept_bits.ensures c.args.kind c.requires.known (register_is_kept c.role.result c.args.kind c.in-PlainRegister.is c.role.ensures)) c.number-width.ensures.is h)
    c.register_word.ensures

pub returns-in-MemoryBlock : goal.returns-in-MemoryBlock
returns-in-MemoryBlock c =
    IfOk-weaker c.memory_word.result
    (λ (v : Vec Bool Global). v.items ≡ word (c.number-size.result * c.number.result) (λ i. bit (digits_given c.args.cell.now Init) i))
    (λ (v : Vec Bool Global). v.items ≡ initial_of c.args.numbers.now c.args.known.now.names c.args.cell.now)
    (λ v h. memory_starts c.args.known.now.names c.args.numbers.now c.args.cell.now c.args.kind c.role.result c.number-size.result c.number.result (c.number-size.result * c.number.result) v.items
    c.requires.known c.in-MemoryBlock.is c.role.ensures c.number-size.ensures.is c.number.ensures.is refl h)
    c.memory_word.ensures

pub returns-in-Combinational : goal.returns-in-Combinational
returns-in-Combinational c =
    c.new.ensures.items ∙ others_start c.args.known.now.names c.args.numbers.now c.args.cell.now c.args.kind c.role.result c.in-Combinational.is c.role.ensures c.requires.known

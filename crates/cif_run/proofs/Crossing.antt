-- What a run shares with its threads may cross them. A term has terms in boxes, and no type above it has this of itself.
use denote.RattleType.{RattleType}
use denote.Param.Send.{IsSend, IsSync, sendable}
use Rattle.std.proofs.Crossing.{crosses}
use Rattle.std.proofs.sync.ledger.Book.TheSendSync as book
use Rattle.std.proofs.alloc.Global.TheSendSync as heap
use Rattle.std.proofs.sync.atomic.AtomicU64.TheSendSync as word
use Rattle.cif_hall.proofs.worker.Worker.TheSendSync as worker
use Rattle.cif_term.proofs.term.Term.TheLaws.TheKnot as knot
use Rattle.cif_bits.proofs.Bits.TheSendSync as bits
use Rattle.cif_shapes.proofs.shape.Shape.TheSendSync as shape
use Rattle.cif_cells.proofs.netlist.Netlist.TheSendSync as netlist
use Rattle.cif_level.proofs.order.Levels.TheSendSync as levels
use Rattle.cif_stimulus.proofs.stimulus.Stimulus.TheSendSync as stimulus
use Rattle.cif_words.proofs.form.WordForm.TheSendSync as form
use Rattle.cif_cycle.proofs.stored.StoredWords.TheSendSync as stored
use Rattle.cif_pieces.proofs.piece.OwnedBits.TheSendSync as owned
use Rattle.cif_pieces.proofs.plan.Plan.TheSendSync as plan
use Rattle.cif_script.proofs.script.Script.TheSendSync as script
use Rattle.cif_shapes.specs.contracts.rule.TaintRule as rule
use Rattle.cif_shapes.specs.contracts.rules.Rules as rls
use Rattle.cif_term.specs.contracts.term.Term as trm
use Rattle.cif_seq.specs.contracts.case.Case as case
use Rattle.cif_seq.specs.contracts.frame.Frame as frame
use Rattle.cif_pieces.specs.contracts.piece.PartDone as part
use Rattle.cif_pieces.specs.contracts.slots.Slots as slots
use Rattle.cif_hall.specs.contracts.hall.Hall as hall
use Rattle.cif_hall.specs.contracts.session.Session as session
use Rattle.cif_script.proofs.answer.Answer.TheSendSync as answer
use Rattle.cif_run.specs.contracts.reader.Reader as reader

pub term_send : IsSend trm.the_row
term_send = search (sendable, crosses, knot.send-Term, bits.the_send) depth 20

pub term_sync : IsSync trm.the_row
term_sync = search (sendable, crosses, knot.sync-Term, bits.the_sync) depth 20

pub rule_send : IsSend rule.the_row
rule_send = search (sendable, crosses, term_send, shape.the_field_send) depth 20

pub rule_sync : IsSync rule.the_row
rule_sync = search (sendable, crosses, term_sync, shape.the_field_sync) depth 20

pub rules_send : IsSend rls.the_row
rules_send = search (sendable, crosses, rule_send) depth 20

pub rules_sync : IsSync rls.the_row
rules_sync = search (sendable, crosses, rule_sync) depth 20

pub case_send : IsSend case.the_row
case_send = search (sendable, crosses, rules_send, netlist.the_send, levels.the_send, stimulus.the_send, form.the_send) depth 20

pub case_sync : IsSync case.the_row
case_sync = search (sendable, crosses, rules_sync, netlist.the_sync, levels.the_sync, stimulus.the_sync, form.the_sync) depth 20

pub frame_send : IsSend frame.the_row
frame_send = search (sendable, crosses, case_send, case_sync, stored.the_field_send) depth 20

pub frame_sync : IsSync frame.the_row
frame_sync = search (sendable, crosses, case_send, case_sync, stored.the_field_sync) depth 20

pub part_send : IsSend part.the_row
part_send = search (sendable, crosses, case_send, case_sync, owned.the_field_send) depth 20

pub slots_send : IsSend slots.the_row
slots_send = search (sendable, crosses, part_send) depth 20

-- a hall may be shared, whatever its name
pub hall_sync : (T : RattleType) (run : _) (ledger : _) → IsSend T → IsSync T → IsSync (hall.the_row T run ledger)
hall_sync T run ledger s y = search (sendable, crosses, case_send, case_sync, frame_send, frame_sync, slots_send, plan.the_send, plan.the_sync, book.the_send) depth 40

-- a session may go to a thread, whatever its name
pub session_send : (T : RattleType) (run : _) (ledger : _) → IsSend T → IsSync T → IsSend (session.the_row T run ledger)
session_send T run ledger s y = search (sendable, crosses, frame_send, frame_sync) depth 40

pub reader_send : (life : _) (T : RattleType) (scripted : _) (run : _) (ledger : _) → IsSend T → IsSync T → IsSend (reader.the_row life T scripted run ledger)
reader_send life T scripted run ledger s y = search (sendable, crosses, session_send, script.the_sync, answer.the_send) depth 40

-- what `search` needs to see that a hall may be shared with threads, and that the roles may go to them
pub ruleset roles_cross = (sendable, crosses, hall_sync, reader_send, heap.the_field_send, heap.the_send, word.the_sync, worker.the_send)

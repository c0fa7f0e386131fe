use Rattle.std.proofs.Common.{ap}
use Rattle.cif_desk.specs.Refusals.{build_refusal}
use Rattle.cif_desk.proofs.RefusalLaws.{told}
use Rattle.cif_desk.proofs.refusal.build_line.Goals as goal

pub returns-in-MissingPort : goal.returns-in-MissingPort
returns-in-MissingPort c = told _ _ _ (ap build_refusal c.in-MissingPort.is) c.two_names-in-MissingPort.ensures

pub returns-in-WidthMismatch : goal.returns-in-WidthMismatch
returns-in-WidthMismatch c = told _ _ _ (ap build_refusal c.in-WidthMismatch.is) c.two_names-in-WidthMismatch.ensures

pub returns-in-BadParameter : goal.returns-in-BadParameter
returns-in-BadParameter c = told _ _ _ (ap build_refusal c.in-BadParameter.is) c.two_names-in-BadParameter.ensures

pub returns-in-MultiDriven : goal.returns-in-MultiDriven
returns-in-MultiDriven c = told _ _ _ (ap build_refusal c.in-MultiDriven.is) c.numbered.ensures

pub returns-in-Undriven : goal.returns-in-Undriven
returns-in-Undriven c = told _ _ _ (ap build_refusal c.in-Undriven.is) c.numbered-in-Undriven.ensures

pub returns-in-ConstantOutput : goal.returns-in-ConstantOutput
returns-in-ConstantOutput c = told _ _ _ (ap build_refusal c.in-ConstantOutput.is) c.bit_line-in-ConstantOutput.ensures

pub returns-in-TwoClocks : goal.returns-in-TwoClocks
returns-in-TwoClocks c = told _ _ _ (ap build_refusal c.in-TwoClocks.is) c.named.ensures

pub returns-in-ClockAsData : goal.returns-in-ClockAsData
returns-in-ClockAsData c = told _ _ _ (ap build_refusal c.in-ClockAsData.is) c.named-in-ClockAsData.ensures

pub returns-in-InoutPort : goal.returns-in-InoutPort
returns-in-InoutPort c = told _ _ _ (ap build_refusal c.in-InoutPort.is) c.named-in-InoutPort.ensures

pub returns-in-InitConflict : goal.returns-in-InitConflict
returns-in-InitConflict c = told _ _ _ (ap build_refusal c.in-InitConflict.is) c.at_number.ensures

pub returns-in-MemoryForm : goal.returns-in-MemoryForm
returns-in-MemoryForm c = told _ _ _ (ap build_refusal c.in-MemoryForm.is) c.named-in-MemoryForm.ensures

pub returns-in-NoClockInput : goal.returns-in-NoClockInput
returns-in-NoClockInput c = told _ _ _ (ap build_refusal c.in-NoClockInput.is) c.named-in-NoClockInput.ensures

pub returns-in-PortClash : goal.returns-in-PortClash
returns-in-PortClash c = told _ _ _ (ap build_refusal c.in-PortClash.is) c.numbered-in-PortClash.ensures

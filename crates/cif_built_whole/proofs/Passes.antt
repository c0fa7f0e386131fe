-- A module that isn't refused passes each check of what is augmented.
use Rattle.std.specs.Prelude.{◌≡◌, Option, Some, None, refl}
use Rattle.cif_defs.specs.declared.raw_module.Raw.{Raw}
use Rattle.cif_augment.specs.Refusals.{◌else_by◌, instrument_fault, names_fault, size_fault}
use Rattle.cif_augment.specs.declared.fault.InstrumentFault.{InstrumentFault}

first_passes : (a b : Option InstrumentFault) → (a else_by b) ≡ None → a ≡ None
first_passes None b h = refl
first_passes (Some fault) b h = absurd (cc)

next_passes : (a b : Option InstrumentFault) → (a else_by b) ≡ None → b ≡ None
next_passes None b h = h
next_passes (Some fault) b h = absurd (cc)

pub names_are_free : (n : Raw) → instrument_fault n ≡ None → names_fault n ≡ None
unfolding instrument_fault
names_are_free n h = first_passes (names_fault n) (size_fault n) h

pub size_is_small : (n : Raw) → instrument_fault n ≡ None → size_fault n ≡ None
unfolding instrument_fault
size_is_small n h = next_passes (names_fault n) (size_fault n) h

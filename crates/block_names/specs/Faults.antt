-- A fault of naming, as the fault of a step.
use Rattle.block_names.specs.declared.fault.NameFault.{NameFault}
use Rattle.block_names.specs.declared.fault.NameFault.TheVariants as named
use Rattle.block_names.specs.declared.fault.StepFault.{StepFault}
use Rattle.block_names.specs.declared.fault.StepFault.TheVariants as stepped

-- the same clash, or want of memory
abbrev pub step_fault : NameFault → StepFault
step_fault (named.Clash old new) = stepped.Clash old new
step_fault named.Memory = stepped.Memory

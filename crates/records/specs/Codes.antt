-- The codes of formats and methods.
use Rattle.std.specs.Prelude.{ℕ, cond, Ok, Err, Result, ◌==◌}
use Rattle.records.specs.declared.codes.FormatCode.{FormatCode}
use Rattle.records.specs.declared.codes.FormatCode.TheVariants.{Binary16, Bfloat16, Binary32}
use Rattle.records.specs.declared.codes.MethodCode.{MethodCode}
use Rattle.records.specs.declared.codes.MethodCode.TheVariants.{Separate, Fma, Kahan, Fused}
use Rattle.records.specs.declared.fault.RecordFault.{RecordFault}
use Rattle.records.specs.declared.fault.RecordFault.TheVariants.{UnknownCode}

abbrev pub format_number : FormatCode → ℕ
format_number Binary16 = 1
format_number Bfloat16 = 2
format_number Binary32 = 3

abbrev pub method_number : MethodCode → ℕ
method_number Separate = 1
method_number Fma = 2
method_number Kahan = 3
method_number Fused = 4

-- the format or the method of a code; a code that has none is refused
abbrev pub format_by : ℕ → Result FormatCode RecordFault
format_by n = cond (n == 1) (Ok Binary16) (cond (n == 2) (Ok Bfloat16) (cond (n == 3) (Ok Binary32) (Err UnknownCode)))

abbrev pub method_by : ℕ → Result MethodCode RecordFault
method_by n = cond (n == 1) (Ok Separate) (cond (n == 2) (Ok Fma) (cond (n == 3) (Ok Kahan) (cond (n == 4) (Ok Fused) (Err UnknownCode))))

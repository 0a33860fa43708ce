-- Where a template's code lies in a linear file: its first byte, and how many there are.
use Rattle.std.specs.Prelude.{ℕ, List}
use Rattle.linear_code.specs.Bytes.{code_start, code_length}
use Rattle.linear_steps.specs.declared.Code.{Code}

unfoldable pub code_of : List ℕ → ℕ → Code
unfolding code_start code_length
code_of table t = record { start = code_start table t; len = code_length table t }

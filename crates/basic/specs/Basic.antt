-- Basic byte code (document 003, section 1.2; document 02, request 6): a list whose instructions carry their constants, global numbers and templates.
use Rattle.std.specs.Prelude.{ℕ, ◌+◌, ◌*◌, List, length}
use Rattle.files.specs.Entries.{Entry, constant, global, template, tag_width}

-- what a list begins with, and what follows that in the list
pub data Basic : Type 0 where
  ended : Basic
  -- return, call and the neutral codes from 10 on: code, operands
  plain : ℕ → List ℕ → Basic → Basic
  -- literal, global and set-global!: code, the constant or global that stands in it
  carries : ℕ → Entry → Basic → Basic
  -- closure: its list
  closure : Basic → Basic → Basic
  -- unless-false: first arm, second arm
  branch : Basic → Basic → Basic → Basic
  -- make-cont: n, saved list
  save : ℕ → Basic → Basic → Basic

-- one code with all that it carries but lists
pub data Token : Type 0 where
  ended_t : Token
  plain_t : ℕ → List ℕ → Token
  carries_t : ℕ → Entry → Token
  closure_t : Token
  branch_t : Token
  save_t : ℕ → Token

-- ---- how many bits
-- after the code of literal: kind, tag and value; after those of global and set-global!: the number
unfoldable pub carried_bits : Entry → ℕ
carried_bits (constant t x) = 5 + tag_width t
carried_bits (global g) = 8
carried_bits (template t) = 8

-- a code
unfoldable pub token_bits : Token → ℕ
unfolding carried_bits
token_bits ended_t = 5
token_bits (plain_t v ns) = 5 + 8 * length ns
token_bits (carries_t v e) = 5 + carried_bits e
token_bits closure_t = 5
token_bits branch_t = 5
token_bits (save_t n) = 13

-- a list, its code 0 with it
unfoldable pub bits : Basic → ℕ
unfolding carried_bits
bits ended = 5
bits (plain v ns r) = 5 + 8 * length ns + bits r
bits (carries v e r) = 5 + carried_bits e + bits r
bits (closure x r) = 5 + bits x + bits r
bits (branch x y r) = 5 + bits x + bits y + bits r
bits (save n x r) = 13 + bits x + bits r

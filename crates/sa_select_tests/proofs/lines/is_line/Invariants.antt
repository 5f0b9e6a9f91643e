use denote.Text.{Utf8}
use denote.Shadow.{shadow}
use Rattle.sa_select_tests.proofs.lines.is_line.Given as goal

-- What is left of the line is text.
abbrev pub invariant-loop-part : goal.invariant-loop-part
invariant-loop-part l = shadow (Utf8 l.rest)

-- A canonical text is read back as its tree, and as no other.
use Rattle.std.proofs.Common.{ap, ◌∙◌}
use Rattle.sa_ast.specs.declared.statement.Statement.{Statement}
use Rattle.sa_ast.specs.Place.{unplaced}
use Rattle.sa_print.specs.Statement.{canonical_statement}
use Rattle.sa_parser.specs.Canonical.{IsReadBack, CanonicalTextIsUnique}
use Rattle.sa_parser.specs.Parse.{IsStatement}
use Rattle.sa_parser.proofs.Agreement.{statement-unique}
use Rattle.sa_parser.proofs.canonical_text.EachStatement.{each_statement}
use Rattle.sa_parser.proofs.canonical_text.Lexed.{whole-Lexed}
use Rattle.sa_parser.proofs.canonical_text.Read.{are_read}
use Rattle.sa_parser.proofs.canonical_text.Statements.{IsSaid}

read_back : (tree : Statement) → IsSaid tree → IsReadBack tree
read_back tree said =
    let found = said.reads in
    let is : IsStatement found.tokens found.again = (said.levels, found.is) in (
      found.tokens,
      whole-Lexed (canonical_statement tree) found.tokens found.lexed,
      (found.again, is, found.same),
      λ other also. ap unplaced (statement-unique found.tokens other found.again also is) ∙ found.same,
    )

pub unique : CanonicalTextIsUnique
unique bytes tokens tree read (levels, is) = read_back tree (each_statement levels tokens tree (are_read bytes tokens read) is)

-- The three-valued tables of AND, OR and NOT.
-- Source: MariaDB Knowledge Base, "Logical Operators".
use Rattle.sa_value.specs.declared.truth.Truth.{Truth}
use Rattle.sa_value.specs.declared.truth.Truth.TheVariants.{False, Unknown, True}

-- AND: FALSE where one is FALSE, TRUE where both are TRUE.
abbrev pub conjunction : Truth → Truth → Truth
conjunction False False = False
conjunction False Unknown = False
conjunction False True = False
conjunction Unknown False = False
conjunction Unknown Unknown = Unknown
conjunction Unknown True = Unknown
conjunction True False = False
conjunction True Unknown = Unknown
conjunction True True = True

-- OR: TRUE where one is TRUE, FALSE where both are FALSE.
abbrev pub disjunction : Truth → Truth → Truth
disjunction False False = False
disjunction False Unknown = Unknown
disjunction False True = True
disjunction Unknown False = Unknown
disjunction Unknown Unknown = Unknown
disjunction Unknown True = True
disjunction True False = True
disjunction True Unknown = True
disjunction True True = True

-- NOT turns TRUE and FALSE round.
abbrev pub negation : Truth → Truth
negation False = True
negation Unknown = Unknown
negation True = False

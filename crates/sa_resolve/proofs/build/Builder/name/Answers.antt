use Rattle.std.proofs.Common.{◌∙◌}
use Rattle.sa_resolve.proofs.walk.Standing.{ok_as, column_built, item_built, wrong_built}
use Rattle.sa_resolve.proofs.build.Builder.name.Goals as goal

pub returns-in-Column : goal.returns-in-Column
returns-in-Column c = λ tables scope listed place sees stage.
    ok_as c.column.result _ _
    (column_built c.args.self.now.stage tables scope listed c.args.self.now.scope.sight.now place
    c.in_ok-column.field-0 _
    (c.in_ok-column.ensures tables scope listed place sees) c.in-Column.column c.in-Column.is)
    (c.column.ensures tables scope listed place stage)

pub returns-in-Item : goal.returns-in-Item
returns-in-Item c = λ tables scope listed place sees stage.
    item_built c.args.self.now.stage tables scope listed c.args.self.now.scope.sight.now place
    c.in_ok-column.field-0 _
    (c.in_ok-column.ensures tables scope listed place sees) c.alias.result c.in-Item.alias c.in-Item.is
    (λ item kept. c.alias.ensures scope listed item kept stage)

pub returns-in-Wrong : goal.returns-in-Wrong
returns-in-Wrong c = λ tables scope listed place sees stage.
    c.no_expr.ensures
    ∙ wrong_built c.args.self.now.stage tables scope listed c.args.self.now.scope.sight.now place
    c.in_ok-column.field-0 _
    (c.in_ok-column.ensures tables scope listed place sees) _ c.in-Wrong.is

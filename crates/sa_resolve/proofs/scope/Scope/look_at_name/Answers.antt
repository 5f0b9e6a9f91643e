use Rattle.std.proofs.Common.{refl}
use Rattle.sa_resolve.proofs.walk.Names.{looked-Column, looked-Item, looked-Wrong}
use Rattle.sa_resolve.proofs.scope.Scope.look_at_name.Goals as goal

pub returns-in_ok-push-in-Column : goal.returns-in_ok-push-in-Column
returns-in_ok-push-in-Column c = λ tables scope listed sees.
    looked-Column tables scope listed c.args.self.now.sight.now c.args.place c.in_ok-column.field-0 _
    (c.in_ok-column.ensures tables scope listed c.args.place sees)
    c.args.mentions.now (record c.args.mentions.now { loose = c.push.new.self }) c.column.result
    c.in-Column.column _
    c.in-Column.is c.kind.ensures c.column.ensures c.in_ok-push-in-Column.ensures.items refl refl

pub returns-in-Item : goal.returns-in-Item
returns-in-Item c = λ tables scope listed sees.
    looked-Item tables scope listed c.args.self.now.sight.now c.args.place c.in_ok-column.field-0 _
    (c.in_ok-column.ensures tables scope listed c.args.place sees)
    c.args.mentions.now c.named.result c.in-Item.alias c.in-Item.is c.named.ensures

pub returns-in-Wrong : goal.returns-in-Wrong
returns-in-Wrong c = λ tables scope listed sees.
    looked-Wrong tables scope listed c.args.self.now.sight.now c.args.place c.in_ok-column.field-0 _
    (c.in_ok-column.ensures tables scope listed c.args.place sees)
    c.args.mentions.now c.wrong.result _ c.in-Wrong.is c.wrong.ensures

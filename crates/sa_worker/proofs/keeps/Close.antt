-- A worker still knows what it has to after the session closed.
use Rattle.std.proofs.Common.{ℕ, ◌+◌, refl, arith}
use Rattle.sa_desk.specs.declared.entry.Event.TheVariants as event
use Rattle.sa_desk.specs.declared.stamp.Stamp.{Stamp}
use Rattle.sa_desk.specs.Contents.{Contents}
use Rattle.sa_desk.specs.World.{World, IsCall, next_stamp}
use Rattle.sa_desk.specs.call.Close.{close_entries}
use Rattle.sa_desk.specs.call.Close as close
use Rattle.sa_desk.proofs.program.May.{one_most}
use Rattle.sa_worker.specs.View.{View, me_of, closes, done}
use Rattle.sa_worker.specs.Next.{goes_to}
use Rattle.sa_worker.specs.Keeps.{KeepsAt, Keeps}
use Rattle.sa_worker.proofs.keeps.Moves.{Keeps-leads}
use Rattle.sa_worker.proofs.keeps.Goes.{aimed-own, aimed-less, waiting_same}

module _ (world later : World) (view : View) (keeps : KeepsAt world view closes) where
  abbrev session : ℕ
  session = view.given.session

  abbrev desk : Contents
  desk = world.contents session

  abbrev stamp : Stamp
  stamp = next_stamp world (me_of view)

  pub Keeps-close : IsCall world later session session (close_entries desk stamp) (close.after_close desk stamp) → Keeps later (goes_to view done)
  Keeps-close call =
      let entries = close_entries desk stamp in
      let after = close.after_close desk stamp in
      Keeps-leads world later view closes keeps entries after call view.settings (view.turn + 1) view.number view.answer view.began done (record {
        aimed = keeps.session;
        begin = keeps.begin;
        outline_here = λ own. refl;
        outline_elsewhere = λ apart. absurd (apart refl);
        request_here = refl;
        request_elsewhere = λ at apart. refl;
        room_here =
            let price = aimed-own session 1 in
            let none = aimed-own session 0 in
            let one = one_most desk stamp event.Close 1 (omega arith) in omega (arith, price, none, one);
        room_elsewhere = λ at apart. let less = aimed-less session at 0 1 (omega arith) in omega (arith, less);
        waiting_here = waiting_same world later view closes keeps entries after call view.number (omega arith);
        past_more = omega arith;
        holds = record {
          given = keeps.holds.given;
          first = keeps.holds.first;
          limit = keeps.holds.limit;
          answer = keeps.holds.answer;
          holds = tt;
        };
        knows = tt;
      })

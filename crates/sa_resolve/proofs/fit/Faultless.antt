-- What is known of a node without faults.
use Rattle.std.proofs.Common.{◌≡◌, ℕ, false, List, [], ◌++◌, flat_map}
use Rattle.std.specs.List.{AllByRecursion}
use Rattle.sa_ast.specs.declared.expression.ExprNode.{ExprNode-F}
use Rattle.sa_query.specs.declared.refusal.ResolveKind.TheVariants.{TypeMismatch, ExprRange}
use Rattle.sa_resolve.specs.Fault.{Fault, told}
use Rattle.sa_resolve.specs.Node.{parts_of}
use Rattle.sa_resolve.specs.NodeFaults.{wrong_kinds, mixes_types, is_out_of_range, summed, nested, node_faults}
use Rattle.sa_resolve.specs.Reading.{Reading}
use Rattle.sa_resolve.proofs.fit.Lists.{none-left, none-right, none-in, untold}

abbrev pub faults_in : Reading → List Fault
faults_in one = one.faults

-- Nothing is wrong with a node and its parts.
pub record IsFaultless (node : ExprNode-F (ℕ → Reading) Reading) : Type 0 where
  pub parts : AllByRecursion (λ (one : Reading). one.faults ≡ []) (parts_of node)
  pub kinds : wrong_kinds node ≡ []
  pub mixes : mixes_types node ≡ false
  pub range : is_out_of_range node ≡ false
  pub sums : summed node ≡ []
  pub calls : nested node ≡ []

pub faultless_node : (node : ExprNode-F (ℕ → Reading) Reading) (place : ℕ)
    → flat_map (λ (one : Reading). one.faults) (parts_of node) ++ node_faults place node ≡ []
    → IsFaultless node
faultless_node node place none =
    let own = none-right (flat_map faults_in (parts_of node)) (node_faults place node) none in
    let wrong = wrong_kinds node in
    let mixed = told (mixes_types node) TypeMismatch place in
    let far = told (is_out_of_range node) ExprRange place in
    let four = none-left (wrong ++ mixed ++ far ++ summed node) (nested node) own in
    let three = none-left (wrong ++ mixed ++ far) (summed node) four in
    let two = none-left (wrong ++ mixed) far three in
    record {
      parts =
          none-in faults_in (parts_of node) (none-left (flat_map faults_in (parts_of node))
          (node_faults place node) none);
      kinds = none-left wrong mixed two;
      mixes = untold (mixes_types node) TypeMismatch place (none-right wrong mixed two);
      range = untold (is_out_of_range node) ExprRange place (none-right (wrong ++ mixed) far three);
      sums = none-right (wrong ++ mixed ++ far) (summed node) four;
      calls = none-right (wrong ++ mixed ++ far ++ summed node) (nested node) own;
    }

use Rattle.std.proofs.Common.{vec_len, ◌+◌, ◌-◌, ◌∙◌, ◌++◌, get_or, replicate, rules, arith, ap}
use Rattle.std.proofs.lemmas.List.{take_all}
use Rattle.pid_table.proofs.Nodes.{new_node, padded}
use Rattle.pid_table.proofs.pid_places.node_at.Goals as goal

pub returns-clause-nodes : goal.returns-clause-nodes
returns-clause-nodes c =
    let nodes = c.args.nodes.now.items in
    let size = c.args.size in
    let grown = c.in-Ok.ensures.items
    ∙ ap (λ words. words ++ replicate (c.len-new.result + size - vec_len c.args.nodes.now) 0)
    (take_all (c.len-new.result + size) nodes (omega (arith, c.len-new.ensures))) in
    new_node size c.args.index c.len-new.result c.args.parents.now.items nodes c.resize.new.self.items
    c.requires.size c.requires.there (search rules) c.requires.first c.requires.nodes
    (λ i. ap (λ words. get_or words i 0) grown ∙ padded nodes _ i)
    (search rules) (omega (arith, c.len-new.ensures))

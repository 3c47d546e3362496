use Rattle.std.proofs.Common.{rules}
use Rattle.std.proofs.lemmas.Iterator.{YieldsList-from_slice}
use Rattle.std.proofs.lemmas.Iterator.Search.{find_from_yields_List}
use borrow.Author.Tests.{tests}
use Rattle.grid_tests.specs.declared.hub.TheConstants.{TURNS}
use Rattle.grid_tests.specs.Hub.{goes}
use Rattle.grid_tests.proofs.hub.HubRules.turn.Goals as goal

pub returns-clause-word : goal.returns-clause-word
returns-clause-word c =
    let found = find_from_yields_List (goes c.args.a c.args.b) _ _ c.find.result c.find.ensures.ran (YieldsList-from_slice TURNS (cc)) (λ x b q k. search (rules, tests)) in
    search (rules, found)

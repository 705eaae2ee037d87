use Rattle.std.proofs.Common.{◌∙◌, sym, ◌∷◌}
use Rattle.ds_flat.specs.Stack.{path_of}
use Rattle.ds_flat.proofs.Uses.{is_open_named, refuses_open, refuses_copies, refuses_formal, copies_model, few_copies, found_as, formal_as}
use Rattle.ds_flat.proofs.open.checked.Goals as goal

pub returns-then-is_open-clause-fault : goal.returns-then-is_open-clause-fault
returns-then-is_open-clause-fault c =
    let path = c.args.top.now.name.now ∷ path_of c.args.below.now.frames in
    let found = found_as c.args.library.now _ _ _ _ _ c.get.ensures c.in-Some.ensures in
    let among = is_open_named c.args.library.now c.args.call.now.model c.in-Some.found.place path _
    found.place found.within c.requires.known in
    refuses_open c.args.library.now path c.args.top.now.scope c.args.line c.args.call.now
    c.args.copies c.in-Some.found.model.now found.named c.recursive.result
    (sym among ∙ sym c.if-is_open.ensures) c.recursive.ensures

pub returns-then-copies-most-clause-fault : goal.returns-then-copies-most-clause-fault
returns-then-copies-most-clause-fault c =
    let path = c.args.top.now.name.now ∷ path_of c.args.below.now.frames in
    let found = found_as c.args.library.now _ _ _ _ _ c.get.ensures c.in-Some.ensures in
    let among = is_open_named c.args.library.now c.args.call.now.model c.in-Some.found.place path _
    found.place found.within c.requires.known in
    refuses_copies c.args.library.now path c.args.top.now.scope c.args.line c.args.call.now
    c.args.copies c.in-Some.found.model.now found.named (sym among ∙ sym c.if-is_open.ensures)
    c.too_many.result (c.if-copies-most.true ∙ c.most.ensures) c.too_many.ensures

pub returns-in-Some-unknown_formal-clause-fault : goal.returns-in-Some-unknown_formal-clause-fault
returns-in-Some-unknown_formal-clause-fault c =
    let path = c.args.top.now.name.now ∷ path_of c.args.below.now.frames in
    let found = found_as c.args.library.now _ _ _ _ _ c.get.ensures c.in-Some.ensures in
    let among = is_open_named c.args.library.now c.args.call.now.model c.in-Some.found.place path _
    found.place found.within c.requires.known in
    refuses_formal c.args.library.now path c.args.top.now.scope c.args.line c.args.call.now
    c.args.copies c.in-Some.found.model.now found.named (sym among ∙ sym c.if-is_open.ensures)
    (few_copies c.args.copies c.requires.copies (λ full. c.if-copies-most.false (full ∙ sym c.most.ensures)))
    c.unknown_formal_of.result c.in-Some-unknown_formal.formal.now
    (formal_as c.in-Some.found.model.now _ _ _ _ found.ports c.as_slice.ensures
    c.in-Some-unknown_formal.ensures)
    c.unknown_formal_of.ensures

pub returns-in-None-unknown_formal-clause-ok : goal.returns-in-None-unknown_formal-clause-ok
returns-in-None-unknown_formal-clause-ok c =
    let path = c.args.top.now.name.now ∷ path_of c.args.below.now.frames in
    let found = found_as c.args.library.now _ _ _ _ _ c.get.ensures c.in-Some.ensures in
    let among = is_open_named c.args.library.now c.args.call.now.model c.in-Some.found.place path _
    found.place found.within c.requires.known in
    copies_model c.args.library.now path c.args.top.now.scope c.args.line c.args.call.now
    c.args.copies c.in-Some.found.model.now found.named (sym among ∙ sym c.if-is_open.ensures)
    (few_copies c.args.copies c.requires.copies (λ full. c.if-copies-most.false (full ∙ sym c.most.ensures)))
    (formal_as c.in-Some.found.model.now _ _ _ _ found.ports c.as_slice.ensures
    c.in-None-unknown_formal.ensures)

use Rattle.std.proofs.Common.{◌≡◌, ℕ, ◌<◌, List, None, unwrap_or, IsOk, refl, sym, ap, ◌∙◌, subst}
use Rattle.std.proofs.Math.ListN.{get_or-map}
use Rattle.folds.specs.Folds.{fold_meaning}
use Rattle.folds.specs.Mapped.{Mapping}
use Rattle.folds.specs.declared.classes.Classes.{Classes}
use Rattle.folds.specs.declared.fold.Fold.{Fold}
use Rattle.frames.specs.Frames.{draft_meaning}
use Rattle.sets.specs.Sets.{width}
use Rattle.systems.specs.Edits.{load_answer}
use Rattle.systems.specs.Meaning.{Meaning}
use Rattle.tables.specs.Laws.{entries_lawful}
use Rattle.tables.specs.Tables.{making_of, listed_meaning}
use Rattle.tables.specs.declared.listed.Listed.{Listed}
use Rattle.tables.specs.declared.table.Table.{Table}
use Rattle.quotients.specs.Progress.{map_of}
use Rattle.quotients.specs.Quotients.{Folded}
use Rattle.quotients.specs.declared.map.ClassMap.{ClassMap}
use Rattle.quotients.proofs.Loads.{loads, loaded, folds}
use Rattle.quotients.proofs.reader.fold_into.Goals as goal

mapping : (table : Table) (map : ClassMap) → Mapping (making_of table).system (map_of map).classes map.count
mapping table map = record {
  some = map.some;
  few = map.few;
  below = λ s h. subst (λ k. k < map.count) (sym (get_or-map (λ k. unwrap_or k 0) map.classes s None)) (map.below s);
  inhabited = table.bounds.some_states;
}

-- the fold that is made is that of the table's system
same : (M : Meaning) (cs : List ℕ) (count : ℕ) (fold : Fold Listed) (system : Listed) (classes : Classes) → fold.system ≡ system → listed_meaning system ≡ M → fold.classes ≡ classes → classes.of ≡ cs → fold.count ≡ count → fold_meaning (listed_meaning fold.system) fold.classes.of fold.count ≡ fold_meaning M cs count
same M cs count fold system classes s m k c n =
    ap (λ (N : Meaning). fold_meaning N fold.classes.of fold.count) (ap listed_meaning s ∙ m) ∙ ap (λ l. fold_meaning M l fold.count) (ap (λ (x : Classes). x.of) k ∙ c) ∙ ap (fold_meaning M cs) n

pub unwrap-requires : goal.unwrap-requires
unwrap-requires c =
    let table = c.args.table.now in
    let map = c.args.map.now in
    let M = (making_of table).system in
    let cs = (map_of map).classes in
    let made = c.new-fold.ensures in
    let is = same M cs map.count c.new-fold.result c.read.result c.to_classes.result made.system c.read.ensures.meaning made.classes c.to_classes.ensures made.count in
    subst (λ r. IsOk r) (sym (c.load.ensures.answer ∙ ap (load_answer width) is ∙ loads M cs map.count (mapping table map))) refl

pub returns : goal.returns
returns c =
    let table = c.args.table.now in
    let map = c.args.map.now in
    let M = (making_of table).system in
    let cs = (map_of map).classes in
    let made = c.new-fold.ensures in
    let new = draft_meaning c.load.new.self in
    let whole = same M cs map.count c.new-fold.result c.read.result c.to_classes.result made.system c.read.ensures.meaning made.classes c.to_classes.ensures made.count in
    let is = loaded M cs map.count (mapping table map) _ (draft_meaning c.args.draft.now) new c.load.result whole c.load.ensures.answer c.load.ensures.after in
    record { after = is; folded = subst (Folded M cs map.count) (sym is) (folds M cs map.count (mapping table map) (entries_lawful table.bounds _ _)) }

-- The table of a draft is that of the property that it has read.
use Rattle.std.proofs.Common.{◌≡◌, ℕ, List, map, ap, sym, ◌∙◌, vec_items}
use Rattle.property.specs.Views.{declared, key_of, sofar}
use Rattle.property.specs.declared.draft.Draft.{Draft}
use Rattle.limits.proofs.Members.{map_twice}
use Rattle.limits.specs.Tables as by
use Rattle.limits.specs.Tables.{constants_from, table_of}
use Rattle.property.specs.declared.table.Register.{Register as Named}
use Rattle.property.specs.declared.table.Statement.{Statement as Written}
use Rattle.tables.specs.Meant.{names_of}
use Rattle.tables.specs.Properties.{table}
use Rattle.tables.specs.Views as views
use Rattle.tables.specs.declared.parts.Register.{Register}
use Rattle.tables.specs.declared.parts.Statement.{Statement}

-- What a table holds besides is what its registers and statements were made of.
pub held : (t : List ℕ) (d : Draft) (rs : List Named) (ws : List Written) (cs : List Register) (ss : List Statement)
    → rs ≡ vec_items d.registers → ws ≡ vec_items d.statements
    → ((u : List ℕ) → map views.number cs ≡ constants_from 0 (map (key_of u) rs)) → map views.statement ss ≡ map by.statement ws
    → table (vec_items d.methods) cs ss ≡ table_of (sofar t d)
held t d rs ws cs ss e f constants statements =
    let methods = sym (map_twice (declared t) by.method (vec_items d.methods)) in
    let cs = constants t ∙ ap (λ gs. constants_from 0 (map (key_of t) gs)) e in
    let ss = statements ∙ ap (map by.statement) f in
    λ i. record { methods = methods i; constants = cs i; statements = ss i }

-- The names of a draft are read in any copy of its text.
pub named : (s t : List ℕ) (d : Draft) → s ≡ t → names_of (sofar s d) ≡ names_of (sofar t d)
named s t d e = ap (λ u. names_of (sofar u d)) e

use Rattle.std.proofs.Common.{ap, sym, subst, arith}
use Rattle.ring_model.specs.Messages.{Client as party}
use Rattle.pond_node.specs.Standing.{NodeStands}
use Rattle.ring_model.specs.World.{world}
use Rattle.ring_world.specs.Worlds.{WorldStands, LabelsHeld}
use Rattle.pond_world.specs.Setups.{ring_by, is_among}
use Rattle.pond_world.specs.Sites.{SiteView}
use Rattle.pond_world.proofs.Labels.{labels_apart}
use Rattle.pond_world.proofs.site.Site.client.Goals as goal

pub returns-clause-stands : goal.returns-clause-stands
returns-clause-stands g c = λ r events stands.
    c.client.ensures.stands r events (subst (λ w. WorldStands NodeStands r w events) (sym (ap (λ (s : SiteView). s.world) c.self.view_is)) stands)

pub returns-clause-hearts : goal.returns-clause-hearts
returns-clause-hearts g c = λ setup archiving events is stands object number name told.
    let h = g.H.Hash160.naming in
    let ring = ring_by h setup archiving in
    let here = subst (λ w. WorldStands NodeStands ring w events) (sym (ap (λ (s : SiteView). s.world) c.self.view_is)) stands in
    let sound = c.ring_is_sound.ensures h setup archiving is in
    let apart = c.submits_apart.ensures ring events sound.0 here in
    c.heart_is_version.ensures setup.f setup.clients (is_among setup.faulty) h setup.block archiving sound.1 events stands.legal apart (party c.args.client.0) object number name told

pub returns-clause-seals : goal.returns-clause-seals
returns-clause-seals g c = λ setup archiving events is stands object number name told.
    let h = g.H.Hash160.naming in
    let ring = ring_by h setup archiving in
    let here = subst (λ w. WorldStands NodeStands ring w events) (sym (ap (λ (s : SiteView). s.world) c.self.view_is)) stands in
    let sound = c.ring_is_sound.ensures h setup archiving is in
    let apart = c.submits_apart.ensures ring events sound.0 here in
    c.seal_is_manifest.ensures setup.f setup.clients (is_among setup.faulty) h setup.block archiving sound.1 events stands.legal apart (party c.args.client.0) object number name told

pub returns-clause-replies : goal.returns-clause-replies
returns-clause-replies g c = λ setup archiving events is stands number outcome told.
    let h = g.H.Hash160.naming in
    let ring = ring_by h setup archiving in
    let here = subst (λ w. WorldStands NodeStands ring w events) (sym (ap (λ (s : SiteView). s.world) c.self.view_is)) stands in
    let sound = c.ring_is_sound.ensures h setup archiving is in
    let apart = c.submits_apart.ensures ring events sound.0 here in
    c.reply_is_outcome.ensures setup.f setup.clients (is_among setup.faulty) h setup.block archiving sound.1 events stands.legal apart c.args.client.0 number outcome told

pub returns-clause-answered : goal.returns-clause-answered
returns-clause-answered g c = λ setup archiving events is stands correct delivered.
    let h = g.H.Hash160.naming in
    let ring = ring_by h setup archiving in
    let here = subst (λ w. WorldStands NodeStands ring w events) (sym (ap (λ (s : SiteView). s.world) c.self.view_is)) stands in
    c.client.ensures.answered ring events here (c.ring_is_sound.ensures h setup archiving is).1 correct delivered

pub returns-clause-told : goal.returns-clause-told
returns-clause-told g c = λ setup archiving events is stands correct delivered label own.
    let h = g.H.Hash160.naming in
    let ring = ring_by h setup archiving in
    let here = subst (λ w. WorldStands NodeStands ring w events) (sym (ap (λ (s : SiteView). s.world) c.self.view_is)) stands in
    let sound = c.ring_is_sound.ensures h setup archiving is in
    let held = c.labels_held.ensures ring events sound.0 here in
    c.last_is_told.ensures setup.f setup.clients (is_among setup.faulty) h setup.block archiving sound.1 correct events stands.legal delivered c.args.client.0
    (omega (arith, c.requires, stands.is.client_count)) label
    (labels_apart h c.args.self.now.held ring events label stands.legal (subst (λ held. LabelsHeld h held (world ring events).submits) (ap (λ (s : SiteView). s.held) c.self.view_is) held) own)

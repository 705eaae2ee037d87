-- Keys of places, and nodes, as the code keeps them.
use Rattle.ds_astg.specs.Place.{Key}
use Rattle.ds_astg.specs.Place.Key.{Named, Between}
use Rattle.ds_astg.specs.Node.{Node}
use Rattle.ds_astg.specs.Node.Node.{Event as EventNode, Place as PlaceNode}
use Rattle.ds_astg.specs.declared.key.Key.{Key as Kept}
use Rattle.ds_astg.specs.declared.key.Key.TheVariants.{Named as KeptNamed, Between as KeptBetween}
use Rattle.ds_astg.specs.declared.node.Node.{Node as KeptNode}
use Rattle.ds_astg.specs.declared.node.Node.TheVariants.{Event as KeptEvent, Place as KeptPlace}

-- the key that a kept one stands for
abbrev pub key_of : Kept → Key
key_of (KeptNamed name) = Named name.now
key_of (KeptBetween source target) = Between source target

-- what a kept node stands for
abbrev pub node_seen : KeptNode → Node
node_seen (KeptEvent event) = EventNode event
node_seen (KeptPlace name) = PlaceNode name.now

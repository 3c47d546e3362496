pub mod Hub
pub mod HubLaw

pub mod OnGrids
pub mod Measuring
pub mod OwnPlans
pub mod Lending
